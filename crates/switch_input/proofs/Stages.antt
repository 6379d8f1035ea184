-- The stages of the verdict, from what was read.
use Rattle.std.proofs.Common.{◌≡◌, ℕ, ◌<◌, ◌≤◌, true, false, List, length, Option, Some, None, refl, sym, ap, ◌∙◌, arith}
use Rattle.std.specs.Prelude.{IsSomeAnd, nat_lt, Result, Ok, Err}
use Rattle.std.proofs.lemmas.Bool.Decides.{nat_tests}
use Rattle.spec_pcap.specs.Pcap.{Capture, capture_of}
use Rattle.spec_pcap.specs.declared.fault.PcapFault.{PcapFault}
use Rattle.spec_run.specs.declared.quantity.Quantity.TheVariants.{EditsBytes, StepsBytes, MirrorsBytes, TraceBytes}
use Rattle.spec_input.specs.Mirrors.{most_mirrors_bytes}
use Rattle.spec_run.specs.Limits.{most_edits_bytes, most_steps_bytes}
use Rattle.spec_run.specs.Verdict.{Files, Refusal, Limit, refused_trace, script_in, steps_within, steps_in, mirrors_within, mirrors_in, file_in}
use Rattle.switch_input.specs.declared.refusals.refusal.InputFault.{InputFault}
use Rattle.switch_input.specs.declared.refusals.refusal.InputRefusal.{InputRefusal}
use Rattle.switch_input.specs.declared.refusals.refusal.InputRefusal.TheVariants.{Input, ReadFault, OutOfMemory}
use Rattle.switch_input.specs.Refused.{fault_view, IfInput, Explains}
use Rattle.switch_input.specs.EditsViews.{script_in_bytes}

past : (n limit : ℕ) → limit < n → nat_lt limit n ≡ true
past n limit lt = grind (arith, nat_tests)

within : (n limit : ℕ) → n ≤ limit → nat_lt limit n ≡ false
within n limit le = grind (arith, nat_tests)

-- ---- the edits

pub script_too_long : (files : Files) (name : List ℕ) → IsSomeAnd (files name) (λ b. most_edits_bytes < length b) → script_in files name ≡ Err (Limit EditsBytes)
unfolding script_in
script_too_long files name long = over (files name) refl long
  where
    over : (o : Option (List ℕ)) → files name ≡ o → IsSomeAnd o (λ b. most_edits_bytes < length b) → script_in files name ≡ Err (Limit EditsBytes)
    over None e long = absurd long
    over (Some bytes) e long = rw (e, past (length bytes) most_edits_bytes long) refl

-- the bytes of a file give what the file does
pub of_bytes : (files : Files) (name bytes : List ℕ) → files name ≡ Some bytes → script_in files name ≡ script_in_bytes name bytes
unfolding script_in
of_bytes files name bytes held = rw held refl

-- ---- the steps

pub steps_too_long : (files : Files) (ports name : List ℕ) → IsSomeAnd (files name) (λ b. most_steps_bytes < length b)
    → steps_in files ports (Some name) ≡ Err (Limit StepsBytes)
steps_too_long files ports name long = over (files name) refl long
  where
    over : (o : Option (List ℕ)) → files name ≡ o → IsSomeAnd o (λ b. most_steps_bytes < length b) → steps_in files ports (Some name) ≡ Err (Limit StepsBytes)
    over None e long = absurd long
    over (Some bytes) e long = rw (e, past (length bytes) most_steps_bytes long) refl

-- the bytes of a file give what the file does
pub steps_of_bytes : (files : Files) (ports name bytes : List ℕ) → files name ≡ Some bytes → steps_in files ports (Some name) ≡ steps_within ports name bytes
steps_of_bytes files ports name bytes held = rw held refl

-- ---- the mirrors

pub mirrors_too_long : (files : Files) (ports name : List ℕ) → IsSomeAnd (files name) (λ b. most_mirrors_bytes < length b)
    → mirrors_in files ports (Some name) ≡ Err (Limit MirrorsBytes)
mirrors_too_long files ports name long = over (files name) refl long
  where
    over : (o : Option (List ℕ)) → files name ≡ o → IsSomeAnd o (λ b. most_mirrors_bytes < length b) → mirrors_in files ports (Some name) ≡ Err (Limit MirrorsBytes)
    over None e long = absurd long
    over (Some bytes) e long = rw (e, past (length bytes) most_mirrors_bytes long) refl

-- the bytes of a file give what the file does
pub mirrors_of_bytes : (files : Files) (ports name bytes : List ℕ) → files name ≡ Some bytes → mirrors_in files ports (Some name) ≡ mirrors_within ports name bytes
mirrors_of_bytes files ports name bytes held = rw held refl

-- ---- a trace

pub trace_too_long : (files : Files) (bytes_left frames_left : ℕ) (name : List ℕ) → IsSomeAnd (files name) (λ b. bytes_left < length b)
    → file_in files bytes_left frames_left name ≡ Err (Limit TraceBytes)
unfolding file_in
trace_too_long files bytes_left frames_left name long = over (files name) refl long
  where
    over : (o : Option (List ℕ)) → files name ≡ o → IsSomeAnd o (λ b. bytes_left < length b) → file_in files bytes_left frames_left name ≡ Err (Limit TraceBytes)
    over None e long = absurd long
    over (Some bytes) e long = rw (e, past (length bytes) bytes_left long) refl

pub trace_read : (files : Files) (bytes_left frames_left : ℕ) (name bytes : List ℕ) (size : ℕ) (capture : Capture) → files name ≡ Some bytes → size ≡ length bytes → size ≤ bytes_left
    → capture_of frames_left bytes ≡ Ok capture → file_in files bytes_left frames_left name ≡ Ok (record { size = size; capture = capture })
unfolding file_in
trace_read files bytes_left frames_left name bytes size capture held is le read = rw (is, held, within (length bytes) bytes_left (rw is at le), read) refl

pub trace_refused : (files : Files) (bytes_left frames_left : ℕ) (name bytes : List ℕ) (fault : PcapFault) → files name ≡ Some bytes → length bytes ≤ bytes_left
    → capture_of frames_left bytes ≡ Err fault → file_in files bytes_left frames_left name ≡ Err (refused_trace name fault)
unfolding file_in
trace_refused files bytes_left frames_left name bytes fault held le read = rw (held, within (length bytes) bytes_left le, read) refl

-- ---- what a refusal tells

-- where a file that is too long is refused by the stage, a refusal that tells of one is the stage's
pub too_long_explains : {A : Type 0} (stage : Result A Refusal) (too_long : InputFault) (Long : Type 0) (r : InputRefusal) → (Long → stage ≡ Err (fault_view too_long))
    → IfInput r (λ fault. fault ≡ too_long) → IfInput r (λ _. Long) → Explains stage r
too_long_explains {A = A} stage too_long Long (Input fault) refuses is long = refuses long ∙ ap (λ (f : InputFault). let e : Result A Refusal = Err (fault_view f) in e) (sym is)
too_long_explains stage too_long Long (ReadFault name) refuses is long = tt
too_long_explains stage too_long Long OutOfMemory refuses is long = tt

-- a refusal that tells what the stage says is the stage's
pub said_explains : {A : Type 0} (stage : Result A Refusal) (said : Refusal) (r : InputRefusal) → stage ≡ Err said → IfInput r (λ fault. fault_view fault ≡ said) → Explains stage r
said_explains {A = A} stage said (Input fault) is tells = is ∙ ap (λ (s : Refusal). let e : Result A Refusal = Err s in e) (sym tells)
said_explains stage said (ReadFault name) is tells = tt
said_explains stage said OutOfMemory is tells = tt
