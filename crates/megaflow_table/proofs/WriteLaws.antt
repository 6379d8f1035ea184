-- A write to one entry.
use Rattle.std.proofs.Common.{◌≡◌, ℕ, ◌<◌, Bool, true, false, cond, ◌==◌, List, [], ◌∷◌, length, get_or, nat_eq, Option, Some, None, refl, sym, ap, subst, ◌∙◌, arith}
use Rattle.std.specs.Prelude.{is_some, IsSome, IfSome, slice_get}
use Rattle.std.specs.Map.{keys_of}
use Rattle.std.specs.Option.{option_map}
use Rattle.std.specs.HashMap.{WritesThrough}
use Rattle.std.specs.declared.hash.FoldHasher.{FoldHasher}
use Rattle.std.specs.declared.hash.BuildHasherDefault.{BuildHasherDefault}
use Rattle.std.proofs.lemmas.Bool.{false≢true, eqb-true}
use Rattle.std.proofs.lemmas.Cmp.{nat_eq_equiv}
use Rattle.std.proofs.lemmas.List.Quantifiers.{position-Some}
use Rattle.std.proofs.lemmas.Map.Entries.{lookup_from_place}
use Rattle.std.proofs.lemmas.Option.{slice_get-map, slice_get-get_or, get_or_from_slice_get}
use Rattle.indexmap.specs.IndexMap.{IndexMap, get, index_of_by, index_map_len, spare, with_value_at, IsUnique, Updates}
use Rattle.indexmap.proofs.CallerLemmas.{updates-with_value_at}
use Rattle.megaflow_table.specs.declared.entry.Entry.{Entry}
use Rattle.megaflow_table.specs.declared.placed.Placed.{Placed}
use Rattle.megaflow_table.specs.declared.megaflows.Megaflows.TheInside.{Inside}
use Rattle.megaflow_table.specs.Entries.{Flows, entry_of, changed}
use Rattle.megaflow_table.specs.Subtables.{number_under}
use Rattle.megaflow_table.specs.Parts.{IsTable, look_in, flows_in}
use Rattle.megaflow_table.proofs.EntryLaws.{IsSameName, entry_of-look, changed-entries}
use Rattle.megaflow_table.proofs.SoundLaws.{renamed_sound, change_forth, change_back}

abbrev pub Entries : Type 0
Entries = IndexMap ℕ Placed (BuildHasherDefault FoldHasher)

pub entry_in : (a : Inside) (number : ℕ) (flows : Flows) → flows_in a ≡ flows → IsTable a → entry_of number flows.entries ≡ look_in a number
entry_in a number flows view table =
    sym (ap (λ (f : Flows). entry_of number f.entries) view) ∙ entry_of-look (look_in a) a.live.items number table.consistent.found (table.consistent.within number)

-- the entry of a number after one is put there
pub looked : (before after : Option Placed) (put : Placed) (t : Bool) → after ≡ cond t (Some put) before
    → option_map (λ (p : Placed). p.entry) after ≡ cond t (Some put.entry) (option_map (λ (p : Placed). p.entry) before)
looked before after put true is = ap (option_map (λ (p : Placed). p.entry)) is
looked before after put false is = ap (option_map (λ (p : Placed). p.entry)) is

-- the same after one is taken out
pub taken : (before after : Option Placed) (t : Bool) → after ≡ cond t None before → option_map (λ (p : Placed). p.entry) after ≡ cond t None (option_map (λ (p : Placed). p.entry) before)
taken before after true is = ap (option_map (λ (p : Placed). p.entry)) is
taken before after false is = ap (option_map (λ (p : Placed). p.entry)) is

module _ (a : Inside) (number : ℕ) (e f : Placed) (entries : Entries) (table : IsTable a) (at : Some e ≡ get nat_eq a.entries number) (updates : Updates nat_eq a.entries entries number (Some f)) (room : spare entries ≡ spare a.entries) where
  abbrev after : Inside
  after = record a { entries = entries }

  was : look_in a number ≡ Some e.entry
  was = ap (option_map (λ (p : Placed). p.entry)) (sym at)

  put : (n : ℕ) → look_in after n ≡ cond (number == n) (Some f.entry) (look_in a n)
  put n = looked (get nat_eq a.entries n) (get nat_eq entries n) f (number == n) (updates.0 n)

  pub updated_table : IsSameName e.entry f.entry → IsTable after
  updated_table names = record {
    consistent = renamed_sound a.live.items (look_in a) (look_in after) (number_under a.subtables) table.consistent
        (change_forth (look_in a) (look_in after) number e.entry f.entry was names put) (change_back (look_in a) (look_in after) number e.entry f.entry was names put);
    room = λ mask is. let before = table.room mask is in record {
      entries = subst (λ (n : ℕ). 0 < n) (sym room) before.entries;
      live = before.live;
      subtables = before.subtables;
      subtable = before.subtable;
      fresh = before.fresh;
    };
    fresh = table.fresh;
    masked = table.masked;
    used = table.used;
    ranked = table.ranked;
  }

  pub updated_flows : (change : Entry → Entry) → f.entry ≡ change e.entry → (flows : Flows) → flows_in a ≡ flows
      → flows_in after ≡ record flows { entries = changed number change flows.entries }
  updated_flows change is flows view =
      ap (λ (es : List Entry). record (flows_in a) { entries = es }) (changed-entries (look_in a) (look_in after) a.live.items number change e.entry table.consistent.found was (λ n. put n ∙ ap (λ (g : Entry). cond (number == n) (Some g) (look_in a n)) is))
      ∙ ap (λ (g : Flows). record g { entries = changed number change g.entries }) view

-- the same through a reference to one
module _ (a : Inside) (number : ℕ) (e f : Placed) (entries : Entries) (table : IsTable a) (at : Some e ≡ get nat_eq a.entries number) (writes : WritesThrough nat_eq (nat_eq number) a.entries f entries) where
  pub written_table : IsSameName e.entry f.entry → IsTable (record a { entries = entries })
  written_table = updated_table a number e f entries table at (writes.3 (ap is_some (sym at))) writes.6

  pub written_flows : (change : Entry → Entry) → f.entry ≡ change e.entry → (flows : Flows) → flows_in a ≡ flows
      → flows_in (record a { entries = entries }) ≡ record flows { entries = changed number change flows.entries }
  written_flows = updated_flows a number e f entries table at (writes.3 (ap is_some (sym at))) writes.6

-- .. and by its place
module _ (a : Inside) (number place : ℕ) (e f : Placed) (table : IsTable a) (unique : IsUnique nat_eq a.entries) (there : slice_get a.entries.entries place ≡ Some (number, e)) where
  pub found_at : Some e ≡ get nat_eq a.entries number
  found_at = sym (lookup_from_place nat_eq_equiv a.entries.entries place number e unique there)

  pub table_at : IsSameName e.entry f.entry → IsTable (record a { entries = with_value_at a.entries place f })
  table_at = updated_table a number e f (with_value_at a.entries place f) table found_at (updates-with_value_at a.entries place f nat_eq_equiv unique number e there) refl

  pub flows_at : (change : Entry → Entry) → f.entry ≡ change e.entry → (flows : Flows) → flows_in a ≡ flows
      → flows_in (record a { entries = with_value_at a.entries place f }) ≡ record flows { entries = changed number change flows.entries }
  flows_at = updated_flows a number e f (with_value_at a.entries place f) table found_at (updates-with_value_at a.entries place f nat_eq_equiv unique number e there) refl

-- a search by a number answers the place of its entry
place_found : (entries : Entries) (number place : ℕ) → index_of_by (nat_eq number) entries ≡ Some place → place < length entries.entries → (p : Placed) × (slice_get entries.entries place ≡ Some (number, p))
place_found entries number place index within = at entries.entries refl
  where
    at : (es : List (ℕ × Placed)) → entries.entries ≡ es → (p : Placed) × (slice_get entries.entries place ≡ Some (number, p))
    at [] is = absurd (let none = ap length is in omega (arith, within, none))
    at (d ∷ es) is =
        let t = get_or entries.entries place d in
        let there = slice_get-get_or entries.entries place d within in
        let found = position-Some (nat_eq number) (keys_of entries.entries) place t.0 index in
        let here : get_or (keys_of entries.entries) place t.0 ≡ t.0 =
        get_or_from_slice_get (keys_of entries.entries) place t.0 t.0 (slice_get-map (λ (u : ℕ × Placed). u.0) entries.entries place ∙ ap (option_map (λ (u : ℕ × Placed). u.0)) there) in
        (t.1, there ∙ ap (λ (n : ℕ). Some (n, t.1)) (sym (eqb-true number t.0 (ap (nat_eq number) (sym here) ∙ found.1))))

pub places_found : (entries : Entries) (number : ℕ) (found : Option ℕ) → found ≡ index_of_by (nat_eq number) entries → IfSome found (λ place. place < index_map_len entries)
    → IfSome found (λ place. (p : Placed) × (slice_get entries.entries place ≡ Some (number, p)))
places_found entries number None index within = tt
places_found entries number (Some place) index within = place_found entries number place (sym index) within

pub not_live : (a : Inside) (number : ℕ) (flows : Flows) → flows_in a ≡ flows → IsTable a → IsSome (entry_of number flows.entries) → None ≡ get nat_eq a.entries number → ⊥
not_live a number flows view table live none = false≢true (ap is_some (ap (option_map (λ (p : Placed). p.entry)) none ∙ sym (entry_in a number flows view table)) ∙ live)

pub names_from : (change : Entry → Entry) (e f : Entry) → f ≡ change e → IsSameName e (change e) → IsSameName e f
names_from change e f is names = subst (λ (g : Entry). IsSameName e g) (sym is) names
