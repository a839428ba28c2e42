-- Each event keeps a well-formed state well formed, and fresh is well formed.
use mathlib.Core.Path.{◌≡◌, refl}
use mathlib.Core.Bool.{true, false≢true}
use Prim.Native.Nat.{ℕ, ◌<◌, ◌≤◌, ◌^◌}
use native.Mathlib.Nat.{mod-lt, le_of_suc-le-suc}
use native.Mathlib.Omega.{arith}
use borrow.Author.Tests.{eqb-true, ne_eqb}
use lib.Dec.{eqb, lit<, lit≤}
use lib.IntN.{ℤ, pos, negsuc}
use lib.Pow.{pow_pos}
use mir.Syntax.{Width, w16, w32}
use mir.Val.{SFits, hbits}
use Rattle.word.specs.Masks.{bit, set_bit, clear_bit}
use Rattle.word.specs.TwosComplement.{unsigned}
use Rattle.word.proofs.TwosComplement.{sfits-signed}
use Rattle.word.proofs.Branches.{cond-cases}
use Rattle.counter.specs.declared.state.Settings.{Settings}
use Rattle.counter.specs.declared.state.Counter.{Counter}
use Rattle.counter.specs.Desk.{queued_of, empty}
use Rattle.counter.specs.Parts.{AS, SP, FE, flag, on, off, with_staged, with_flags, no_settings, fresh_settings, fresh}
use Rattle.counter.specs.Loading.{first_broken, accepted, rejected, load}
use Rattle.counter.specs.Interrupts.{quiet}
use Rattle.counter.specs.Events.{is_zero, takes_bit, takes_zero, legal_flag, legal, levels_of, word_of, short_of, staged, staged_write, device, set_to}
use Rattle.counter.specs.Events.{device_write, sp_rises, flag_write, emptied, auto_start, enter_run, program_word, output_write, control, step}
use Rattle.counter.specs.WellFormed.{SettingsTyped, Good, well_formed, parts_formed, is_none}
use Rattle.counter.proofs.Flags.{Other, other, kept-set, kept-clear, kept-quiet}
use Rattle.counter.proofs.Legal.{flag-below}
use Rattle.counter.proofs.Changes.{Well, good-well, well-good, well-staged, well-acc, well-out, well-flags}
use Rattle.counter.proofs.Interrupting.{well-desk, well-routine_done}
use Rattle.counter.proofs.Loads.{first-number, well-accepted, well-rejected, well-load, well-preset_load}
use Rattle.counter.proofs.Samples.{well-sample, program_word-lt}

-- ---- settings

word-lt : (v : ℤ) → word_of v < 2 ^ 16
word-lt v = mod-lt (unsigned w32 v) (lit< tt)

short-fits : (v : ℤ) → SFits w16 (short_of v)
short-fits v = sfits-signed (record { fits = word-lt v })

staged-typed : (sub : ℕ) (v : ℤ) (s : Settings) → SFits w32 v → SettingsTyped s → SettingsTyped (staged sub v s)
unfolding staged
staged-typed sub v s h t =
    cond-cases SettingsTyped (eqb sub 1) _ _
    (λ e. record { pfn = t.pfn; mode = t.mode; hip = h; lop = t.lop; ovf = t.ovf; unf = t.unf; omb = t.omb; hpo = t.hpo; lpo = t.lpo })
    (λ e. cond-cases SettingsTyped (eqb sub 2) _ _
    (λ e. record { pfn = t.pfn; mode = t.mode; hip = t.hip; lop = h; ovf = t.ovf; unf = t.unf; omb = t.omb; hpo = t.hpo; lpo = t.lpo })
    (λ e. cond-cases SettingsTyped (eqb sub 3) _ _
    (λ e. record { pfn = t.pfn; mode = t.mode; hip = t.hip; lop = t.lop; ovf = h; unf = t.unf; omb = t.omb; hpo = t.hpo; lpo = t.lpo })
    (λ e. cond-cases SettingsTyped (eqb sub 4) _ _
    (λ e. record { pfn = t.pfn; mode = t.mode; hip = t.hip; lop = t.lop; ovf = t.ovf; unf = h; omb = t.omb; hpo = t.hpo; lpo = t.lpo })
    (λ e. cond-cases SettingsTyped (eqb sub 5) _ _
    (λ e. record { pfn = t.pfn; mode = t.mode; hip = t.hip; lop = t.lop; ovf = t.ovf; unf = t.unf; omb = t.omb; hpo = word-lt v; lpo = t.lpo })
    (λ e. cond-cases SettingsTyped (eqb sub 6) _ _
    (λ e. record { pfn = t.pfn; mode = t.mode; hip = t.hip; lop = t.lop; ovf = t.ovf; unf = t.unf; omb = t.omb; hpo = t.hpo; lpo = word-lt v })
    (λ e. t))))))

device-typed : (sub : ℕ) (v : ℤ) (s : Settings) → SettingsTyped s → SettingsTyped (device sub v s)
unfolding device
device-typed sub v s t =
    cond-cases SettingsTyped (eqb sub 1) _ _
    (λ e. record { pfn = short-fits v; mode = t.mode; hip = t.hip; lop = t.lop; ovf = t.ovf; unf = t.unf; omb = t.omb; hpo = t.hpo; lpo = t.lpo })
    (λ e. cond-cases SettingsTyped (eqb sub 2) _ _
    (λ e. record { pfn = t.pfn; mode = short-fits v; hip = t.hip; lop = t.lop; ovf = t.ovf; unf = t.unf; omb = t.omb; hpo = t.hpo; lpo = t.lpo })
    (λ e. cond-cases SettingsTyped (eqb sub 3) _ _
    (λ e. record { pfn = t.pfn; mode = t.mode; hip = t.hip; lop = t.lop; ovf = t.ovf; unf = t.unf; omb = word-lt v; hpo = t.hpo; lpo = t.lpo })
    (λ e. t)))

-- ---- flags

-- a flag that an event may write is neither ED nor LOADED
legal-other : (sub : ℕ) (v : ℤ) → legal_flag sub v ≡ true → Other sub
unfolding legal_flag takes_bit takes_zero
legal-other sub v h =
    let below : sub < 19 = flag-below sub v h in
    record {
      small = omega arith;
      not-ed = ne_eqb sub 4 (λ e. false≢true (rw e at h));
      not-loaded = ne_eqb sub 19 (omega arith);
    }

well-set_to : (c : Counter) (n : ℕ) (v : ℤ) → Well c → Other n → Well (set_to n v c)
well-set_to c n v w o =
    cond-cases Well (is_zero v) (off n c) (on n c) (λ z. well-flags c w (clear_bit 32 c.flags n) (kept-clear c.flags n o))
    (λ z. well-flags c w (set_bit c.flags n) (kept-set c.flags n o))

well-flag_write : (c : Counter) (sub : ℕ) (v : ℤ) → Well c → legal_flag sub v ≡ true → Well (flag_write sub v c)
unfolding flag_write
well-flag_write c sub v w h =
    cond-cases Well (sp_rises sub v c) (load (on SP c)) (set_to sub v c)
    (λ r. well-load (on SP c) (well-flags c w (set_bit c.flags SP) (kept-set c.flags SP (other SP tt refl refl))))
    (λ r. well-set_to c sub v w (legal-other sub v h))

well-device_write : (c : Counter) (sub : ℕ) (v : ℤ) → Well c → Well (device_write sub v c)
unfolding device_write
well-device_write c sub v w =
    cond-cases Well (eqb sub 4) (set_to AS v c) (with_staged (device sub v c.staged) c) (λ e. well-set_to c AS v w (other AS tt refl refl))
    (λ e. well-staged c w (device sub v c.staged) (device-typed sub v c.staged w.typed.staged))

-- ---- outputs

well-output_write : (c : Counter) (v : ℤ) → Well c → Well (output_write v c)
well-output_write c v w =
    let word : ℕ = program_word c.active.omb (word_of v) c.out in
    well-out c w word (program_word-lt c.active.omb (word_of v) c.out w.formed.out)

-- ---- enter run

well-emptied : (c : Counter) → Well c → Well (emptied c)
unfolding queued_of
well-emptied c w =
    well-desk (with_flags (quiet c.flags) c) (well-flags c w (quiet c.flags) (kept-quiet c.flags)) empty
    (record {
      causes = record {
        running-le = lit≤ tt;
        queue = record { first-le = lit≤ tt; second-le = lit≤ tt; order = refl; counted = refl; differ = refl };
        served = refl;
      };
      places = refl;
    })

well-auto_start : (c : Counter) → Well c → Well (auto_start c)
unfolding auto_start
well-auto_start c w =
    let n : ℕ = first_broken c.staged in
    let flags : ℕ = (accepted c).flags in
    cond-cases Well (eqb n 0) (on FE (accepted c)) (rejected n c)
    (λ z. well-flags (accepted c) (well-accepted c w (eqb-true n 0 z)) (set_bit flags FE) (kept-set flags FE (other FE tt refl refl)))
    (λ z. well-rejected c n w (first-number c.staged) z)

well-enter_run : (c : Counter) → Well c → Well (enter_run c)
unfolding enter_run
well-enter_run c w =
    cond-cases Well (flag c AS) (auto_start (emptied c)) (emptied c) (λ a. well-auto_start (emptied c) (well-emptied c w)) (λ a. well-emptied c w)

-- ---- the step

flagged : (kind sub : ℕ) (v : ℤ) → kind ≡ 4 → legal kind sub v ≡ true → legal_flag sub v ≡ true
unfolding legal
flagged kind sub v e l = rw e at l

well-control : (c : Counter) (kind sub : ℕ) (v : ℤ) → Well c → SFits w32 v → legal kind sub v ≡ true → Well (control kind sub v c)
unfolding control staged_write
well-control c kind sub v w h l =
    cond-cases Well (eqb kind 2) _ _ (λ k. well-staged c w (staged sub v c.staged) (staged-typed sub v c.staged h w.typed.staged))
    (λ k. cond-cases Well (eqb kind 3) _ _ (λ k. well-device_write c sub v w)
    (λ k. cond-cases Well (eqb kind 4) _ _ (λ k. well-flag_write c sub v w (flagged kind sub v (eqb-true kind 4 k) l))
    (λ k. cond-cases Well (eqb kind 5) _ _ (λ k. well-acc c w v h)
    (λ k. cond-cases Well (eqb kind 6) _ _ (λ k. well-preset_load c w)
    (λ k. cond-cases Well (eqb kind 7) _ _ (λ k. well-routine_done c w)
    (λ k. cond-cases Well (eqb kind 8) _ _ (λ k. well-enter_run c w) (λ k. cond-cases Well (eqb kind 9) _ _ (λ k. well-output_write c v w) (λ k. w))))))))

-- a legal event keeps a well-formed state well formed; one that is not legal changes nothing
pub step-good : (kind sub : ℕ) (v : ℤ) (c : Counter) → SFits w32 v → Good c → Good (step kind sub v c)
unfolding step
step-good kind sub v c h g =
    let w : Well c = good-well c g in
    let levels : levels_of v ≤ 15 = le_of_suc-le-suc (mod-lt (unsigned w32 v) (lit< tt)) in
    well-good (step kind sub v c)
    (cond-cases Well (legal kind sub v) _ _
    (λ l. cond-cases Well (eqb kind 1) _ _ (λ k. well-sample c w (levels_of v) levels) (λ k. well-control c kind sub v w h l))
    (λ l. w))

zeros : SettingsTyped no_settings
zeros =
    let zero : (w : Width) → SFits w (pos 0) = λ w. record { sfits = pow_pos (hbits w) } in
    record { pfn = zero w16; mode = zero w16; hip = zero w32; lop = zero w32; ovf = zero w32; unf = zero w32; omb = lit< tt; hpo = lit< tt; lpo = lit< tt }

limits : SettingsTyped fresh_settings
limits =
    let most : SFits w32 (pos 2147483647) = record { sfits = lit< tt } in
    let least : SFits w32 (negsuc 2147483647) = record { sfits = lit< tt } in
    record { pfn = zeros.pfn; mode = zeros.mode; hip = most; lop = least; ovf = most; unf = least; omb = zeros.omb; hpo = zeros.hpo; lpo = zeros.lpo }

pub fresh-good : Good fresh
unfolding fresh set_bit clear_bit well_formed parts_formed queued_of is_none bit
fresh-good = record { formed = refl; typed = record { staged = limits; active = zeros; acc = zeros.hip; waiting = refl } }
