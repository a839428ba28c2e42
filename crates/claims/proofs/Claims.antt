-- What is claimed of Lyrasthen, in the order of document 01's three demands: each statement whole, proved by naming the law that stands in
-- another crate's `proofs/`. Its words are defined in the `specs/` that are named here.
use mathlib.Core.Path.{◌≡◌, refl}
use mathlib.Core.Logic.{◌↔◌}
use mathlib.Core.Bool.{Bool, true, false, cond}
use mathlib.Core.List.{List}
use Prim.Native.Nat.{ℕ, ◌+◌, ◌-◌, ◌*◌, ◌/◌, ◌%◌, ◌^◌, ◌<◌, ◌≤◌}
use lib.Dec.{eqb}
use lib.IntN.{ℤ, pos, ◌+ℤ◌, ◌-ℤ◌}
use lib.ListN.{length, take, drop, replicate}
use lib.Signed.{le_z}
use mir.Syntax.{w32}
use mir.Val.{SFits}
use denote.MutBor.{MutBor}
use denote.Ref.{Bor}
use Rattle.std.specs.Prelude.{Result}
use Rattle.word.specs.Masks.{bit}
use Rattle.word.specs.Part.{Bytes, part}
use Rattle.counter.specs.declared.state.Settings.{Settings}
use Rattle.counter.specs.declared.state.Counter.{Counter}
use Rattle.accumulator.specs.Causes.{low_preset, high_preset, underflow, overflow}
use Rattle.counter.specs.Parts.{flag, fresh, LOADED, OF, UF, with_staged}
use Rattle.counter.specs.WellFormed.{Good, well_formed}
use Rattle.counter.specs.Loading.{rules, preset_rules, First, AllPass, Accepted, Rejected, with_presets, load, preset_load}
use Rattle.counter.specs.Interrupts.{preset_word, cause_word}
use Rattle.accumulator.specs.Count.{up, down}
use Rattle.counter.specs.Sample.{up_flags, down_flags, sample}
use Rattle.counter.specs.Events.{program_word, output_write, step}
use Rattle.counter.specs.Bench.{bench}
use Rattle.snapshot.specs.Widths.{event_size, snapshot_size, moving_size}
use Rattle.snapshot.specs.Snapshots.{encode, decode}
use Rattle.snapshot.specs.FormedBytes.{formed}
use Rattle.snapshot.specs.EventBytes.{legal_event, step_event}
use Rattle.snapshot.specs.Split.{split_state, HoldsIfGood}
use Rattle.refusal.specs.declared.Refusal.{Refusal}
use Rattle.refusal.specs.Refusals.{Answer, refused_in, given, number_of, trace_of, answer_of, status_of, Placed, changed_if}
use Rattle.replay.specs.System.{System, Laws}
use Rattle.replay.specs.Image.{Shape, snapshots, snapshot_place, first_snapshot, event_place, changed, Fitting}
use Rattle.replay.specs.Events.{first_illegal}
use Rattle.replay.specs.Replay as any
use Rattle.replay.specs.Mend.{mend}
use Rattle.replay.specs.Claim.{Mended}
use Rattle.image.specs.declared.edition.Edition.{Edition}
use Rattle.image.specs.declared.edition.Edition.TheVariants.{Base}
use Rattle.image_mend.specs.declared.Span.{Span}
use Rattle.image.specs.Editions.{system}
use Rattle.image.specs.Header.{shape_of, system_of}
use Rattle.image.specs.Verdicts.{replay_verdict, ValidTrace}
use Rattle.image_replay.specs.Replays.{TrueTable, final_state, replay_image, replay_last}
use Rattle.image_mend.specs.Mends.{mend_answer, mend_image}
use Rattle.image_mend.specs.Demand3.{Edit, Demand3}
use Rattle.image_mend.specs.Ran.{Ran}
use Rattle.hsc.specs.Version.{version}
use Rattle.hsc.specs.Calls.{check_answer, step_answer, step_after, read_answer, read_after, replay_status, mend_status, mend_span}
use Rattle.hsc.specs.Calls.{compare_status, compare_count, rest_number, rest_part, draw_status}
use Rattle.compare.specs.Comparing.{compare_row}
use Rattle.draw.specs.Drawing.{draw_snapshot, draw_row}
use Rattle.difference.specs.FirstDifference.{first_difference}
use Rattle.report.specs.Office.{office_line}
use Rattle.word.proofs as word
use Rattle.refusal.proofs.Answers as refusals
use Rattle.accumulator.proofs as accumulator
use Rattle.counter.proofs as counter
use Rattle.snapshot.proofs as snapshot
use Rattle.replay.proofs as replay
use Rattle.image.proofs as images
use Rattle.image_replay.proofs as replaying
use Rattle.image_mend.proofs as mending
use Rattle.hsc.proofs as hsc
use Rattle.report.proofs as report

-- ---- Demand 1: whatever bytes come in

-- Each call of the C surface is proved to meet its contract, and so to end and to do nothing undefined. The archive's symbols are calls of
-- these, of the same contracts: `symbols-met` and `symbol-*` in `hsc_c`.
pub calls-met : {M : Type 1} → hsc.version.hsc_version.Statement.statement M × hsc.checking.hsc_event_check.Statement.statement M
    × hsc.stepping.hsc_step.Statement.statement M × hsc.reading.hsc_read.Statement.statement M
    × hsc.replaying.hsc_replay.Statement.statement M × hsc.mending.hsc_mend.Statement.statement M
    × hsc.comparing.hsc_compare.Statement.statement M × hsc.comparing.hsc_rest.Statement.statement M
    × hsc.drawing.hsc_draw.Statement.statement M × hsc.differing.hsc_first_difference.Statement.statement M
    × hsc.receiving.hsc_reader_new.Statement.statement M × hsc.receiving.hsc_reader_feed.Statement.statement M
    × hsc.receiving.hsc_reader_end.Statement.statement M
calls-met = (
  hsc.version.hsc_version.Met.met,
  hsc.checking.hsc_event_check.Met.met,
  hsc.stepping.hsc_step.Met.met,
  hsc.reading.hsc_read.Met.met,
  hsc.replaying.hsc_replay.Met.met,
  hsc.mending.hsc_mend.Met.met,
  hsc.comparing.hsc_compare.Met.met,
  hsc.comparing.hsc_rest.Met.met,
  hsc.drawing.hsc_draw.Met.met,
  hsc.differing.hsc_first_difference.Met.met,
  hsc.receiving.hsc_reader_new.Met.met,
  hsc.receiving.hsc_reader_feed.Met.met,
  hsc.receiving.hsc_reader_end.Met.met,
)

-- The contracts, as the checker reads them for a caller: what is asked of the arguments, and what is learnt of them, the answer r and the
-- arguments after the call. `now` is what a lent buffer holds, κs are the lifetimes of the loans. No call asks anything.
pub hsc-version : (κs : _) (r : ℕ) → (hsc.version.hsc_version.Reads.Asked κs tt ≡ Unit)
    × (hsc.version.hsc_version.Reads.Learnt κs tt r tt ≡ (r ≡ version))
hsc-version κs r = (refl, refl)

pub hsc-event-check : (κs : _) (event event' : Bor (List ℕ)) (r : ℕ) → (hsc.checking.hsc_event_check.Reads.Asked κs (event, tt) ≡ Unit)
    × (hsc.checking.hsc_event_check.Reads.Learnt κs (event, tt) r (event', tt) ≡ (r ≡ check_answer event.now))
hsc-event-check κs event event' r = (refl, refl)

pub hsc-step : (κs : _) (snapshot snapshot' : MutBor (List ℕ)) (event event' : Bor (List ℕ)) (r : ℕ)
    → (hsc.stepping.hsc_step.Reads.Asked κs (snapshot, (event, tt)) ≡ Unit)
    × (hsc.stepping.hsc_step.Reads.Learnt κs (snapshot, (event, tt)) r (snapshot', (event', tt))
    ≡ ((r ≡ step_answer snapshot.now event.now) × (snapshot'.now ≡ step_after snapshot.now event.now)))
hsc-step κs snapshot snapshot' event event' r = (refl, refl)

pub hsc-read : (κs : _) (snapshot snapshot' : Bor (List ℕ)) (fields fields' : MutBor (List ℤ)) (r : ℕ)
    → (hsc.reading.hsc_read.Reads.Asked κs (snapshot, (fields, tt)) ≡ Unit)
    × (hsc.reading.hsc_read.Reads.Learnt κs (snapshot, (fields, tt)) r (snapshot', (fields', tt))
    ≡ ((r ≡ read_answer snapshot.now) × (fields'.now ≡ read_after snapshot.now fields.now)))
hsc-read κs snapshot snapshot' fields fields' r = (refl, refl)

pub hsc-replay : (κs : _) (image image' last last' : MutBor (List ℕ)) (r : ℕ)
    → (hsc.replaying.hsc_replay.Reads.Asked κs (image, (last, tt)) ≡ Unit)
    × (hsc.replaying.hsc_replay.Reads.Learnt κs (image, (last, tt)) r (image', (last', tt))
    ≡ ((r ≡ replay_status image.now) × ((image'.now ≡ replay_image image.now) × (last'.now ≡ replay_last image.now last.now))))
hsc-replay κs image image' last last' r = (refl, refl)

pub hsc-mend : (κs : _) (image image' : MutBor (List ℕ)) (patch patch' : Bor (List ℕ)) (span span' : MutBor (List ℕ)) (first first' r : ℕ)
    → (hsc.mending.hsc_mend.Reads.Asked κs (image, (first, (patch, (span, tt)))) ≡ Unit)
    × (hsc.mending.hsc_mend.Reads.Learnt κs (image, (first, (patch, (span, tt)))) r (image', (first', (patch', (span', tt))))
    ≡ ((r ≡ mend_status image.now first patch.now)
    × ((image'.now ≡ mend_image image.now first patch.now) × (span'.now ≡ mend_span image.now first patch.now span.now))))
hsc-mend κs image image' patch patch' span span' first first' r = (refl, refl)

pub hsc-compare : (κs : _) (first first' second second' : Bor (List ℕ)) (row row' : MutBor (List ℕ)) (count count' : MutBor ℕ) (r : ℕ)
    → (hsc.comparing.hsc_compare.Reads.Asked κs (first, (second, (row, (count, tt)))) ≡ Unit)
    × (hsc.comparing.hsc_compare.Reads.Learnt κs (first, (second, (row, (count, tt)))) r (first', (second', (row', (count', tt))))
    ≡ ((r ≡ compare_status first.now second.now row.now)
    × ((row'.now ≡ compare_row first.now second.now row.now) × (count'.now ≡ compare_count first.now second.now row.now count.now))))
hsc-compare κs first first' second second' row row' count count' r = (refl, refl)

pub hsc-rest : (κs : _) (first first' second second' : Bor (List ℕ)) (part part' : MutBor (List ℕ)) (r : ℕ)
    → (hsc.comparing.hsc_rest.Reads.Asked κs (first, (second, (part, tt))) ≡ Unit)
    × (hsc.comparing.hsc_rest.Reads.Learnt κs (first, (second, (part, tt))) r (first', (second', (part', tt)))
    ≡ ((r ≡ rest_number first.now second.now) × (part'.now ≡ rest_part first.now second.now)))
hsc-rest κs first first' second second' part part' r = (refl, refl)

pub hsc-draw : (κs : _) (snapshot snapshot' : MutBor (List ℕ)) (events events' : Bor (List ℕ)) (row row' : MutBor (List ℤ)) (r : ℕ)
    → (hsc.drawing.hsc_draw.Reads.Asked κs (snapshot, (events, (row, tt))) ≡ Unit)
    × (hsc.drawing.hsc_draw.Reads.Learnt κs (snapshot, (events, (row, tt))) r (snapshot', (events', (row', tt)))
    ≡ ((r ≡ draw_status snapshot.now events.now row.now)
    × ((snapshot'.now ≡ draw_snapshot Base snapshot.now events.now (length row.now))
    × (row'.now ≡ draw_row Base snapshot.now events.now row.now))))
hsc-draw κs snapshot snapshot' events events' row row' r = (refl, refl)

pub hsc-first-difference : (κs : _) (first first' second second' : Bor (List ℕ)) (r : ℕ)
    → (hsc.differing.hsc_first_difference.Reads.Asked κs (first, (second, tt)) ≡ Unit)
    × (hsc.differing.hsc_first_difference.Reads.Learnt κs (first, (second, tt)) r (first', (second', tt))
    ≡ (r ≡ first_difference first.now second.now))
hsc-first-difference κs first first' second second' r = (refl, refl)

-- an image is not refused exactly where its header is right, its length is that of its shape, its events are legal and replay may start
pub verdict-valid : (image : List ℕ) → Bytes image → ValidTrace image ↔ (images.Headers.Headed image × any.Replayable (system_of image) (shape_of image) image)
verdict-valid = images.Accepted.verdict-valid

-- the place of refusals 5 and 8: that event is illegal
pub scan-illegal : {width : ℕ} (S : System width) (bytes : List ℕ) (at i n : ℕ)
    → first_illegal S bytes at i n < i + n
    → S.legal (part bytes (at + first_illegal S bytes at i n * width) width) ≡ false
scan-illegal = replay.Scan.scan-illegal

-- and none before it is
pub scan-legal : {width : ℕ} (S : System width) (bytes : List ℕ) (at i n k : ℕ)
    → i ≤ k → k < first_illegal S bytes at i n → S.legal (part bytes (at + k * width) width) ≡ true
scan-legal = replay.Scan.scan-legal

-- refusals have the numbers 1 to 12, and name the first of two traces, the second or none
pub number-range : (r : Refusal) → (1 ≤ number_of r) × (number_of r ≤ 12)
number-range = refusals.number-range

pub trace-range : (r : Refusal) → trace_of r ≤ 2
trace-range = refusals.trace-range

-- every place of a refusal by replay or mending fits its half of the status
pub replay-placed : (image : List ℕ) → Placed (replay_verdict image)
replay-placed = images.Bounds.replay-placed

pub mend-placed : (image : List ℕ) (f : ℕ) (patch : List ℕ) → Placed (mend_answer image f patch)
mend-placed = mending.Bounds.mend-placed

-- so bits 0 to 15 of a status are the refusal's number, bits 16 to 31 the trace that it names, and bits 32 to 63 its place
pub status-number : (number trace place : ℕ) → number < 2 ^ 16 → trace < 2 ^ 16 → status_of {A = Unit} (refused_in number trace place) % 2 ^ 16 ≡ number
status-number = hsc.Status.status-number

pub status-trace : (number trace place : ℕ) → number < 2 ^ 16 → trace < 2 ^ 16
    → status_of {A = Unit} (refused_in number trace place) / 2 ^ 16 % 2 ^ 16 ≡ trace
status-trace = hsc.Status.status-trace

pub status-place : (number trace place : ℕ) → number < 2 ^ 16 → trace < 2 ^ 16 → status_of {A = Unit} (refused_in number trace place) / 2 ^ 32 ≡ place
status-place = hsc.Status.status-place

-- status 0 says that nothing is refused
pub status-done : (v : Result Unit Refusal) → status_of (answer_of v) ≡ 0 → answer_of v ≡ given tt
status-done = refusals.status-done

-- with any other status a lent buffer, which a verdict changes by `changed_if`, is as it was
pub status-kept : {A : Type 0} (a : Answer Unit) (old new : List A) → (status_of a ≡ 0 → ⊥) → old ≡ changed_if a old new
status-kept = refusals.status-kept

-- ---- Demand 2: counting follows document 01

-- fresh is well formed
pub fresh-good : Good fresh
fresh-good = counter.Steps.fresh-good

-- a legal event keeps a well-formed state well formed; one that is not legal changes nothing
pub step-good : (kind sub : ℕ) (v : ℤ) (c : Counter) → SFits w32 v → Good c → Good (step kind sub v c)
step-good = counter.Steps.step-good

-- a count up overflows exactly past OVF, and raises the high preset exactly where it lands on it
pub up-overflow : (single : Bool) (acc hip ovf unf : ℤ) → ((up single acc hip ovf unf).cause ≡ overflow) ↔ (le_z ovf acc ≡ true)
up-overflow = accumulator.Landing.up-overflow

pub up-preset : (single : Bool) (acc hip ovf unf : ℤ)
    → ((up single acc hip ovf unf).cause ≡ high_preset) ↔ ((le_z ovf acc ≡ false) × (acc +ℤ pos 1 ≡ hip))
up-preset = accumulator.Landing.up-preset

-- a count down underflows exactly past UNF, and raises the low preset exactly where it lands on it
pub down-underflow : (acc lop ovf unf : ℤ) → ((down acc lop ovf unf).cause ≡ underflow) ↔ (le_z acc unf ≡ true)
down-underflow = accumulator.Landing.down-underflow

pub down-preset : (acc lop ovf unf : ℤ) → ((down acc lop ovf unf).cause ≡ low_preset) ↔ ((le_z acc unf ≡ false) × (acc -ℤ pos 1 ≡ lop))
down-preset = accumulator.Landing.down-preset

-- OF is set by overflow alone, UF by underflow alone
pub up_flags-of : (single : Bool) (cause w : ℕ) → bit (up_flags single cause w) OF ≡ cond (eqb cause overflow) true (bit w OF)
up_flags-of = counter.Flags.up_flags-of

pub down_flags-uf : (cause w : ℕ) → bit (down_flags cause w) UF ≡ cond (eqb cause underflow) true (bit w UF)
down_flags-uf = counter.Flags.down_flags-uf

-- a load's ER is a rule's number exactly when that rule is the first one broken, and 0 exactly when none is (rule 1 is at place 0)
pub load-refused : (c : Counter) (k : ℕ) → ((load c).er ≡ 1 + k) ↔ First (rules c.staged) k
load-refused = counter.Exact.load-refused

pub load-accepted : (c : Counter) → ((load c).er ≡ 0) ↔ AllPass (rules c.staged)
load-accepted = counter.Exact.load-accepted

-- the same for the presets' load (rule 3 is at place 0)
pub preset-refused : (c : Counter) (k : ℕ) → flag c LOADED ≡ true → ((preset_load c).er ≡ 3 + k) ↔ First (preset_rules c.staged c.active) k
preset-refused = counter.Exact.preset-refused

pub preset-accepted : (c : Counter) → flag c LOADED ≡ true → ((preset_load c).er ≡ 0) ↔ AllPass (preset_rules c.staged c.active)
preset-accepted = counter.Exact.preset-accepted

-- what an accepted and a rejected load leave
pub load-accepts : (c : Counter) → AllPass (rules c.staged) → Accepted c c.staged (load c)
load-accepts = counter.LoadEffects.load-accepts

pub load-rejects : (c : Counter) (k : ℕ) → First (rules c.staged) k → Rejected c (1 + k) (load c)
load-rejects = counter.LoadEffects.load-rejects

pub preset-accepts : (c : Counter) → flag c LOADED ≡ true → AllPass (preset_rules c.staged c.active)
    → Accepted c (with_presets c.staged c.active) (preset_load c)
preset-accepts = counter.LoadEffects.preset-accepts

pub preset-rejects : (c : Counter) → flag c LOADED ≡ true → (k : ℕ) → First (preset_rules c.staged c.active) k
    → Rejected c (3 + k) (preset_load c)
preset-rejects = counter.LoadEffects.preset-rejects

-- with nothing loaded the presets' load has no effect
pub preset-idle : (c : Counter) → flag c LOADED ≡ false → preset_load c ≡ c
preset-idle = counter.LoadEffects.preset-idle

-- a cause leaves the outputs outside the active mask, and a preset gives those in it the bits of its word
pub cause-kept : (cause omb hpo lpo out n : ℕ) → bit omb n ≡ false → n < 16 → bit (cause_word cause omb hpo lpo out) n ≡ bit out n
cause-kept = counter.Words.cause-kept

pub preset-put : (omb word out n : ℕ) → bit omb n ≡ true → n < 12 → bit (preset_word omb word out) n ≡ bit word n
preset-put = counter.Words.preset-put

-- the program's word leaves the outputs in the active mask, and gives the others its bits
pub program-kept : (omb word out n : ℕ) → n < 12 → bit omb n ≡ true → bit (program_word omb word out) n ≡ bit out n
program-kept = counter.Words.program-kept

pub program-put : (omb word out n : ℕ) → n < 12 → bit omb n ≡ false → bit (program_word omb word out) n ≡ bit word n
program-put = counter.Words.program-put

-- output bits 12 to 15 stay 0
pub cause-top : (out n : ℕ) → out < 2 ^ 12 → 12 ≤ n → (cause omb hpo lpo : ℕ) → bit (cause_word cause omb hpo lpo out) n ≡ false
cause-top = counter.Words.cause-top

pub program-top : (out n : ℕ) → out < 2 ^ 12 → 12 ≤ n → (omb word : ℕ) → bit (program_word omb word out) n ≡ false
program-top = counter.Words.program-top

-- words of k bits are equal where their bits are, so these laws say the whole word
pub word-ext : (k v w : ℕ) → v < 2 ^ k → w < 2 ^ k → ((n : ℕ) → n < k → bit v n ≡ bit w n) → v ≡ w
word-ext = word.Masks.word-ext

-- staged settings, OMB among them, have no say in an input sample or in the program's word
pub sample-staged : (s : Settings) (new : ℕ) (c : Counter) → sample new (with_staged s c) ≡ with_staged s (sample new c)
sample-staged = counter.Words.sample-staged

pub output-staged : (s : Settings) (v : ℤ) (c : Counter) → output_write v (with_staged s c) ≡ with_staged s (output_write v c)
output-staged = counter.Words.output-staged

-- the bench table holds in each of its twelve rows
pub bench-holds : bench ≡ replicate 12 true
bench-holds = counter.Bench.bench-holds

-- the byte offsets of snapshots and events are document 01's
pub places : snapshot.Offsets.Places
places = snapshot.Offsets.places

-- a well-formed state is read back from its snapshot, and any 68 bytes are written back from the state that they hold
pub decode-encode : (c : Counter) → Good c → decode (encode c) ≡ c
decode-encode = snapshot.RoundTrip.decode-encode

pub encode-decode : (b : List ℕ) → Bytes b → length b ≡ snapshot_size → encode (decode b) ≡ b
encode-decode = snapshot.RoundTrip.encode-decode

-- well formed on bytes is well formed on states, both ways
pub formed-decode : (b : List ℕ) → formed b ≡ well_formed (decode b)
formed-decode = snapshot.Rules.formed-decode

pub good-decode : (b : List ℕ) → Bytes b → length b ≡ snapshot_size → formed b ≡ true → Good (decode b)
good-decode = snapshot.RoundTrip.good-decode

pub formed-encode : (c : Counter) → Good c → formed (encode c) ≡ true
formed-encode = snapshot.RoundTrip.formed-encode

-- the stamp is never read: events with the same first 8 bytes are legal alike, and take a state to the same
pub legal-stamp : (d e : List ℕ) → take 8 d ≡ take 8 e → legal_event d ≡ legal_event e
legal-stamp = snapshot.Stamp.legal-stamp

pub step-stamp : (d e : List ℕ) (c : Counter) → take 8 d ≡ take 8 e → step_event d c ≡ step_event e c
step-stamp = snapshot.Stamp.step-stamp

-- an event taken over a state in its bytes, and the moving ones beside them, is the step of that state, where that is well formed
pub step-over-met : {M : Type 1} → snapshot.split.step_over.Statement.statement M
step-over-met = snapshot.split.step_over.Met.met

pub step-over : (κs : _) (s s' moving moving' : MutBor (List ℕ)) (events events' : Bor (List ℕ)) (at at' : ℕ)
    → (snapshot.split.step_over.Reads.Asked κs (s, (moving, (events, (at, tt))))
    ≡ ((length s.now ≡ snapshot_size) × (length moving.now ≡ moving_size) × (at + event_size ≤ length events.now)))
    × (snapshot.split.step_over.Reads.Learnt κs (s, (moving, (events, (at, tt)))) tt (s', (moving', (events', (at', tt))))
    ≡ HoldsIfGood (step_event (part events.now at event_size) (split_state s.now moving.now)) s'.now moving'.now)
step-over κs s s' moving moving' events events' at at' = (refl, refl)

-- ---- Demand 3: a mended night is the replayed night

-- Mending is proved to meet its contract, whose third part is demand 3: any edit is answered and left as it says. Its fourth is what holds of the
-- events run (`Running`).
pub mend-met : {M : Type 1} → mending.mend.Statement.statement M
mend-met = mending.mend.Met.met

pub mend-contract : (κs : _) (image image' : MutBor (List ℕ)) (patch patch' : Bor (List ℕ)) (first first' : ℕ) (r : Result Span Refusal)
    → (mending.mend.Reads.Asked κs (image, (first, (patch, tt))) ≡ Unit)
    × (mending.mend.Reads.Learnt κs (image, (first, (patch, tt))) r (image', (first', (patch', tt)))
    ≡ ((answer_of r ≡ mend_answer image.now first patch.now)
    × ((image'.now ≡ mend_image image.now first patch.now)
    × (((n : ℕ) → Edit image.now first n patch.now → Demand3 image.now first n patch.now (answer_of r) image'.now)
    × ((s : Span) → answer_of r ≡ given s → Ran image.now first patch.now s.ran)))))
mend-contract κs image image' patch patch' first first' r = (refl, refl)

-- what answers and leaves as mending's definitions say meets demand 3
pub demand-3 : (image : List ℕ) (f n : ℕ) (patch : List ℕ) → Edit image f n patch → Bytes image → Bytes patch
    → (answer : Answer Span) (after : List ℕ) → answer ≡ mend_answer image f patch → after ≡ mend_image image f patch
    → Demand3 image f n patch answer after
demand-3 = mending.Theorem.demand-3

-- replay of a valid image leaves a valid image with a true table
pub replay-valid : (image : List ℕ) → Bytes image → ValidTrace image → ValidTrace (replay_image image)
replay-valid = replaying.Theorem.replay-valid

pub replay-true : (image : List ℕ) → Bytes image → ValidTrace image → TrueTable (replay_image image)
replay-true = replaying.Theorem.replay-true

-- and the final state in the bytes lent for it
pub final-decoded : (image : List ℕ) → Bytes image → ValidTrace image → (last : List ℕ)
    → (system_of image).decode (part (replay_last image last) 0 (system_of image).size) ≡ final_state image
final-decoded = replaying.Theorem.final-decoded

-- mending a valid image with a true table leaves one, so a second edit is covered
pub mend-valid : (image : List ℕ) (f n : ℕ) (patch : List ℕ) → Edit image f n patch → Bytes image → Bytes patch
    → ValidTrace (mend_image image f patch)
mend-valid = mending.Theorem.mend-valid

pub mend-true : (image : List ℕ) (f n : ℕ) (patch : List ℕ) → Edit image f n patch → Bytes image → Bytes patch
    → TrueTable (mend_image image f patch)
mend-true = mending.Theorem.mend-true

-- every edition of the image is a system that keeps the laws
pub laws : (ed : Edition) → Laws (system ed)
laws = images.Laws.laws

-- ---- demand 3 over any such system

module _ {width : ℕ} (S : System width) (L : Laws S) (g : Shape) (image : List ℕ) (r : any.Replayable S g image) where
  -- replay as code does it leaves the replayed image
  pub replay-replayed : any.replay S g (any.start_of S g image) image ≡ any.replayed_image S g image
  replay-replayed = replay.Theorem.replay-replayed S L g image r

  module _ (t : any.TrueTable S g image) where
    -- a true table from snapshot j on is the table of the rest of the trace, from the state there
    pub true-rest : (j : ℕ) → j ≤ snapshots g → drop (snapshot_place S g j) image
        ≡ any.table S (replay.Rest.rest S g j) (any.state_at S g (any.start_of S g image) image j) image 0 (snapshots g - j)
    true-rest = replay.Theorem.true-rest S L g image r t

    module _ (f n : ℕ) where
      module _ (patch : List ℕ) (fits : Fitting S g f n patch) where
        -- mending a true table after any edit leaves the replayed image of the changed image, and stops where it should
        pub mended : Mended S g image f n patch (mend S g f n patch image)
        mended = replay.Theorem.mended S L g image r t f n patch fits

        module _ (bytes : Bytes patch) where
          -- replay of the changed image leaves the same bytes
          pub mended-replay : (mend S g f n patch image).image
              ≡ any.replay S g (any.start_of S g (changed S g image f patch)) (changed S g image f patch)
          mended-replay = replay.Theorem.mended-replay S L g image r t f n patch fits bytes

          -- the mended image may be replayed, and its table is true
          pub mended-replayable : any.Replayable S g (mend S g f n patch image).image
          mended-replayable = replay.Theorem.mended-replayable S L g image r t f n patch fits bytes

          pub mended-true : any.TrueTable S g (mend S g f n patch image).image
          mended-true = replay.Theorem.mended-true S L g image r t f n patch fits bytes

      -- a patch of the events that stand there already leaves the image as it was, and stops at the first snapshot past the run
      module _ (h : f + n ≤ g.count) where
        pub same-events : (mend S g f n (part image (event_place S g f) (n * width)) image).image ≡ image
        same-events = replay.Theorem.same-events S L g image r t f n h

        pub same-events-stop : (j : ℕ) → first_snapshot g f < j → j < snapshots g → f + n ≤ j * g.spacing
            → (mend S g f n (part image (event_place S g f) (n * width)) image).stop ≤ j
        same-events-stop = replay.Theorem.same-events-stop S L g image r t f n h

-- ---- the office program

-- in a buffer of 160 bytes or more it finds the line that document 01 gives for its image
pub answer-met : {M : Type 1} → report.office.answer.Statement.statement M
answer-met = report.office.answer.Met.met

pub office-line : (κs : _) (image image' line line' : MutBor (List ℕ)) (r : ℕ)
    → (report.office.answer.Reads.Asked κs (image, (line, tt)) ≡ (160 ≤ length line.now))
    × (report.office.answer.Reads.Learnt κs (image, (line, tt)) r (image', (line', tt))
    ≡ ((take r line'.now ≡ office_line image.now) × (r ≤ length line'.now)))
office-line κs image image' line line' r = (refl, refl)
