-- What the steps of a board make of its entries.
use Rattle.std.proofs.Common.{◌≡◌, ℕ, Bool, true, false, not, ◌==◌, if◌then◌else◌, List, [], ◌∷◌, map, filter, refl, sym, ap, ◌∙◌, subst}
use Rattle.spec_pcap.specs.Pcap.{Frame}
use Rattle.spec_xlate.specs.Translation.{Translation}
use Rattle.spec_board.specs.State.{Entry, Total}
use Rattle.spec_board.specs.Results.{numbers_of}
use Rattle.spec_board.specs.Effects.{is_among, hit_by, revalidated, credited_by}
use Rattle.table_laws.proofs.MemberLaws.{Among, Among-filter, Among_in-filter, Among_in-map}
use Rattle.board_laws.proofs.ListLaws.{Among-map}
use Rattle.board_laws.proofs.NumberLaws.{number_among, among_number, numbers_of-map}

-- an entry is paid, if it is one of these numbers
abbrev pub pay : List ℕ → Entry → Entry
pay numbers e = if is_among numbers e.number then record e { owed_packets = 0; owed_bytes = 0 } else e

-- an entry decides a frame, if it is the one of this number
abbrev pub hit : ℕ → Frame → Entry → Entry
hit n frame e = if e.number == n then hit_by frame e else e

-- an entry has a new translation, if it is the one of this number
abbrev pub renew : ℕ → ℕ → Translation → Entry → Entry
renew n v t e = if e.number == n then revalidated v t e else e

abbrev pub is_without : List ℕ → Entry → Bool
is_without numbers e = not (is_among numbers e.number)

-- the entries that are left where those of these numbers are paid and dropped
abbrev pub left_by : List ℕ → List Entry → List Entry
left_by numbers entries = filter (is_without numbers) (map (pay numbers) entries)

-- the entries where the one of this number is paid and has a new translation
abbrev pub renewed_by : ℕ → ℕ → Translation → List Entry → List Entry
renewed_by n v t entries = map (renew n v t) (map (pay (n ∷ [])) entries)

-- the entries of these numbers, and the totals where they are paid
abbrev pub named : List ℕ → List Entry → List Entry
named numbers entries = filter (λ (e : Entry). is_among numbers e.number) entries

abbrev pub paid_totals : List ℕ → List Entry → (ℕ → Total) → ℕ → Total
paid_totals numbers entries totals = credited_by (named numbers entries) totals

-- the numbers without this one, and without these
abbrev pub others : ℕ → List ℕ → List ℕ
others n ns = filter (λ (m : ℕ). not (m == n)) ns

abbrev pub outside : List ℕ → List ℕ → List ℕ
outside numbers ns = filter (λ (m : ℕ). not (is_among numbers m)) ns

-- ---- what only counts

-- The same entry but for what it counts.
pub record SameHead (e d : Entry) : Type 0 where
  pub number : e.number ≡ d.number
  pub key : e.key ≡ d.key
  pub mask : e.mask ≡ d.mask
  pub version : e.version ≡ d.version
  pub actions : e.actions ≡ d.actions
  pub visits : e.visits ≡ d.visits

pub same_head : (e : Entry) → SameHead e e
same_head e = record { number = refl; key = refl; mask = refl; version = refl; actions = refl; visits = refl }

pub paid_head : (numbers : List ℕ) (e : Entry) → SameHead (pay numbers e) e
paid_head numbers e = at (is_among numbers e.number)
  where
    at : (t : Bool) → SameHead (if t then record e { owed_packets = 0; owed_bytes = 0 } else e) e
    at true = record { number = refl; key = refl; mask = refl; version = refl; actions = refl; visits = refl }
    at false = same_head e

pub hit_head : (n : ℕ) (frame : Frame) (e : Entry) → SameHead (hit n frame e) e
hit_head n frame e = at (e.number == n)
  where
    at : (t : Bool) → SameHead (if t then hit_by frame e else e) e
    at true = record { number = refl; key = refl; mask = refl; version = refl; actions = refl; visits = refl }
    at false = same_head e

-- an entry after such a change was one before
pub record Had (es : List Entry) (e : Entry) : Type 0 where
  pub was : Entry
  pub before : Among was es
  pub same : SameHead e was

pub hit_from : (n : ℕ) (frame : Frame) (es : List Entry) (e : Entry) → Among e (map (hit n frame) es) → Had es e
hit_from n frame es e m =
    let r = Among-map (hit n frame) e es m in
    record { was = r.0; before = r.1; same = subst (λ (x : Entry). SameHead x r.0) (sym r.2) (hit_head n frame r.0) }

pub paid_from : (numbers : List ℕ) (es : List Entry) (e : Entry) → Among e (map (pay numbers) es) → Had es e
paid_from numbers es e m =
    let r = Among-map (pay numbers) e es m in
    record { was = r.0; before = r.1; same = subst (λ (x : Entry). SameHead x r.0) (sym r.2) (paid_head numbers r.0) }

-- an entry that is left was there, and isn't one of the numbers
pub left_from : (numbers : List ℕ) (es : List Entry) (e : Entry) → Among e (left_by numbers es) → Had es e × (is_without numbers e ≡ true)
left_from numbers es e m =
    let f = Among-filter (is_without numbers) e (map (pay numbers) es) m in
    (paid_from numbers es e f.0, f.1)

-- ---- their numbers

pub numbers-hit : (n : ℕ) (frame : Frame) (es : List Entry) → numbers_of (map (hit n frame) es) ≡ numbers_of es
numbers-hit n frame es = numbers_of-map (hit n frame) (λ e. (hit_head n frame e).number) es

pub numbers-paid : (numbers : List ℕ) (es : List Entry) → numbers_of (map (pay numbers) es) ≡ numbers_of es
numbers-paid numbers es = numbers_of-map (pay numbers) (λ e. (paid_head numbers e).number) es

renewed_number : (n v : ℕ) (t : Translation) (e : Entry) → (renew n v t e).number ≡ e.number
renewed_number n v t e = at (e.number == n)
  where
    at : (b : Bool) → (if b then revalidated v t e else e).number ≡ e.number
    at true = refl
    at false = refl

pub numbers-renewed : (n v : ℕ) (t : Translation) (es : List Entry) → numbers_of (renewed_by n v t es) ≡ numbers_of es
numbers-renewed n v t es = numbers_of-map (renew n v t) (renewed_number n v t) (map (pay (n ∷ [])) es) ∙ numbers-paid (n ∷ []) es

-- a number that is left was one before
pub left_number : (numbers : List ℕ) (es : List Entry) (n : ℕ) → Among n (numbers_of (left_by numbers es)) → Among n (numbers_of es)
left_number numbers es n a =
    let r = among_number n (left_by numbers es) a in
    let h = (left_from numbers es r.0 r.1).0 in
    subst (λ (k : ℕ). Among k (numbers_of es)) (sym (r.2 ∙ h.same.number)) (number_among h.was es h.before)

-- a number that isn't one of these is left
pub number_left : (numbers : List ℕ) (es : List Entry) (n : ℕ) → Among n (numbers_of es) → not (is_among numbers n) ≡ true
    → Among n (numbers_of (left_by numbers es))
number_left numbers es n a out =
    let r = among_number n es a in
    let paid = pay numbers r.0 in
    let same : paid.number ≡ n = (paid_head numbers r.0).number ∙ sym r.2 in
    let there : Among paid (left_by numbers es) =
    Among_in-filter (is_without numbers) paid (map (pay numbers) es) (Among_in-map (pay numbers) r.0 es r.1)
    (ap (λ (k : ℕ). not (is_among numbers k)) same ∙ out) in
    subst (λ (k : ℕ). Among k (numbers_of (left_by numbers es))) same (number_among paid (left_by numbers es) there)
