-- States and bytes there and back. A number is read back from its bytes, a signed one from its bits, and the queue's number from the
-- two waiting bytes.
use mathlib.Core.Path.{◌≡◌, refl, sym, ap, ◌∙◌}
use mathlib.Core.Bool.{true}
use mathlib.Core.List.{List, [], ◌∷◌, ◌++◌}
use Prim.Native.Nat.{ℕ, ◌^◌, ◌<◌}
use native.Mathlib.Omega.{arith}
use lib.ListN.{length, get_or}
use mir.Syntax.{w16, w32}
use Rattle.word.specs.Part.{Bytes}
use Rattle.word.specs.TwosComplement.{signed, unsigned}
use Rattle.word.specs.Layouts.{total, pack, unpack, Held, none, more}
use Rattle.word.proofs.TwosComplement.{signed-unsigned, unsigned-signed, sfits-signed, fits-unsigned}
use Rattle.word.proofs.Layouts.{length-pack, unpack-pack, pack-unpack, held-unpack, bytes-pack, held-append}
use Rattle.word.proofs.Replaced.{held-at, held-drop}
use Rattle.counter.specs.declared.state.Settings.{Settings}
use Rattle.counter.specs.declared.state.Counter.{Counter}
use Rattle.counter.specs.Desk.{first, second}
use Rattle.counter.specs.WellFormed.{well_formed, SettingsTyped, Typed, Good}
use Rattle.counter.proofs.Formed.{Formed, formed-parts}
use Rattle.snapshot.specs.Widths.{snapshot_size, settings_layout, other_layout, snapshot_layout}
use Rattle.snapshot.specs.Places.{active_index, acc_index}
use Rattle.snapshot.specs.Snapshots.{settings_row, other_row, row_of, encode, settings_of, state_of, decode}
use Rattle.snapshot.specs.FormedBytes.{formed}
use Rattle.snapshot.proofs.Rules.{formed-decode}

-- ---- the encoding of any state

pub length-encode : (c : Counter) → length (encode c) ≡ snapshot_size
unfolding encode total
length-encode c = length-pack snapshot_layout (row_of c) refl

pub bytes-encode : (c : Counter) → Bytes (encode c)
unfolding encode
bytes-encode c = bytes-pack snapshot_layout (row_of c)

-- ---- a good state is read back from its bytes

held-settings : {s : Settings} → SettingsTyped s → Held settings_layout (settings_row s)
held-settings t =
    more (fits-unsigned t.pfn).fits
    (more (fits-unsigned t.mode).fits
    (more (fits-unsigned t.hip).fits
    (more (fits-unsigned t.lop).fits
    (more (fits-unsigned t.ovf).fits
    (more (fits-unsigned t.unf).fits (more t.omb (more t.hpo (more t.lpo none))))))))

held-other : {c : Counter} → Typed c → Formed c → Held other_layout (other_row c)
held-other {c} t f =
    let causes = f.causes in
    let out : c.out < 256 ^ 2 = omega arith in
    let er : c.er < 256 ^ 2 = omega arith in
    let flags : c.flags < 256 ^ 4 = omega arith in
    let levels : c.levels < 256 ^ 1 = omega arith in
    let running : c.desk.running < 256 ^ 1 = omega arith in
    let one : first c.desk < 256 ^ 1 = omega arith in
    let two : second c.desk < 256 ^ 1 = omega arith in
    more (fits-unsigned t.acc).fits (more out (more er (more flags (more levels (more running (more one (more two none)))))))

settings-back : (s : Settings) (rest : List ℕ) → SettingsTyped s → settings_of (settings_row s ++ rest) ≡ s
settings-back s rest t =
    simp (
      signed-unsigned t.pfn,
      signed-unsigned t.mode,
      signed-unsigned t.hip,
      signed-unsigned t.lop,
      signed-unsigned t.ovf,
      signed-unsigned t.unf,
    )

two : (l : List ℕ) → length l ≡ 2 → get_or l 0 0 ∷ get_or l 1 0 ∷ [] ≡ l
two [] h = absurd (omega arith)
two (x ∷ []) h = absurd (omega arith)
two (x ∷ y ∷ []) h = refl
two (x ∷ y ∷ z ∷ zs) h = absurd (omega arith)

row-back : (c : Counter) → Typed c → Formed c → state_of (row_of c) ≡ c
row-back c t f =
    rw (
      settings-back c.staged (settings_row c.active ++ other_row c) t.staged,
      settings-back c.active (other_row c) t.active,
      signed-unsigned t.acc,
      ← f.causes.queue.counted,
      two c.desk.waiting t.waiting,
    )

held-row : (c : Counter) → Good c → Held snapshot_layout (row_of c)
held-row c g =
    held-append (held-settings g.typed.staged) (held-append (held-settings g.typed.active) (held-other g.typed (formed-parts c g.formed)))

pub unpack-encode : (c : Counter) → Good c → unpack snapshot_layout (encode c) ≡ row_of c
unfolding encode
unpack-encode c g = unpack-pack (held-row c g)

pub decode-encode : (c : Counter) → Good c → decode (encode c) ≡ c
unfolding decode
decode-encode c g = ap state_of (unpack-encode c g) ∙ row-back c g.typed (formed-parts c g.formed)

-- ---- a row whose widths hold its numbers

back16 : {n : ℕ} → n < 256 ^ 2 → unsigned w16 (signed w16 n) ≡ n
back16 h = unsigned-signed {w = w16} (record { fits = h })

back32 : {n : ℕ} → n < 256 ^ 4 → unsigned w32 (signed w32 n) ≡ n
back32 h = unsigned-signed {w = w32} (record { fits = h })

-- is the row of the state that it gives
pub row-state : {r : List ℕ} → Held snapshot_layout r → row_of (state_of r) ≡ r
row-state (more a (more b (more c (more d (more e (more f (more g (more h (more i (more j (more k (more l (more m (more n (more o (more p (more q (more r
    (more s (more t (more u (more v (more w (more x (more y (more z none)))))))))))))))))))))))))) =
    simp (back16 a, back16 b, back32 c, back32 d, back32 e, back32 f, back16 j, back16 k, back32 l, back32 m, back32 n, back32 o, back32 s)

settings-typed : {ks r : List ℕ} → Held (settings_layout ++ ks) r → SettingsTyped (settings_of r)
settings-typed h =
    record {
      pfn = sfits-signed (record { fits = held-at h 0 });
      mode = sfits-signed (record { fits = held-at h 1 });
      hip = sfits-signed (record { fits = held-at h 2 });
      lop = sfits-signed (record { fits = held-at h 3 });
      ovf = sfits-signed (record { fits = held-at h 4 });
      unf = sfits-signed (record { fits = held-at h 5 });
      omb = held-at h 6;
      hpo = held-at h 7;
      lpo = held-at h 8;
    }

state-typed : {r : List ℕ} → Held snapshot_layout r → Typed (state_of r)
state-typed h =
    record {
      staged = settings-typed h;
      active = settings-typed (held-drop h active_index);
      acc = sfits-signed (record { fits = held-at h acc_index });
      waiting = refl;
    }

-- ---- bytes are written back from the state that they hold

held-bytes : (b : List ℕ) → Bytes b → length b ≡ snapshot_size → Held snapshot_layout (unpack snapshot_layout b)
unfolding total
held-bytes = held-unpack snapshot_layout

pub encode-decode : (b : List ℕ) → Bytes b → length b ≡ snapshot_size → encode (decode b) ≡ b
unfolding encode decode total
encode-decode b h e = ap (pack snapshot_layout) (row-state (held-bytes b h e)) ∙ pack-unpack snapshot_layout b h e

-- ---- good states and well-formed bytes

pub typed-decode : (b : List ℕ) → Bytes b → length b ≡ snapshot_size → Typed (decode b)
unfolding decode
typed-decode b h e = state-typed (held-bytes b h e)

pub good-decode : (b : List ℕ) → Bytes b → length b ≡ snapshot_size → formed b ≡ true → Good (decode b)
good-decode b h e f = record { formed = sym (formed-decode b) ∙ f; typed = typed-decode b h e }

pub formed-encode : (c : Counter) → Good c → formed (encode c) ≡ true
formed-encode c g = formed-decode (encode c) ∙ ap well_formed (decode-encode c g) ∙ g.formed
