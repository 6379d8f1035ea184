-- What each call that changes the table leaves.
use Rattle.std.proofs.Common.{◌≡◌, ℕ, ◌<◌, ◌≤◌, cond, ◌==◌, List, [], ◌∷◌, ◌++◌, false, nat_eq, Option, Some, None, refl, sym, ap, subst, ◌∙◌, arith}
use Rattle.std.specs.Prelude.{All, filter, not, vec_len, vec_capacity}
use Rattle.std.specs.Option.{option_map}
use Rattle.std.specs.Map.{lookup}
use Rattle.std.proofs.lemmas.Option.{none-some, same_Some}
use Rattle.indexmap.specs.IndexMap.{spare}
use Rattle.ovs_fields.specs.declared.mask.Mask.{Mask}
use Rattle.ovs_fields.specs.Packed.{numbers, bits}
use Rattle.megaflow_table.specs.declared.entry.Entry.{Entry}
use Rattle.megaflow_table.specs.declared.placed.Placed.{Placed}
use Rattle.megaflow_table.specs.declared.megaflows.Megaflows.TheInside.{Inside}
use Rattle.megaflow_table.specs.Entries.{Flows, overlaps, without}
use Rattle.megaflow_table.specs.Order.{AddsMask}
use Rattle.megaflow_table.specs.Subtables.{Subtables, HasRoomUnder, HasNumbers, AreUnderMasks, IsFresh, IsFreshUnder, IsRanked, KeepsRoom, KeepsNumbers, ChangesOnly, subtable_of, number_under, order_of}
use Rattle.megaflow_table.specs.Live.{IsIn}
use Rattle.megaflow_table.specs.Parts.{IsConsistent, IsTable, masked_key, entries_by, look_in, flows_in}
use Rattle.megaflow_table.specs.declared.subtables.Fresh.{Fresh}
use Rattle.megaflow_table.proofs.SubtableLaws.{kept_masked}
use Rattle.megaflow_table.proofs.EntryLaws.{all_by}
use Rattle.megaflow_table.proofs.OrderLaws.{kept_used, added_used, same_ranked}
use Rattle.megaflow_table.proofs.SoundLaws.{removed_sound, removed_entries, added_sound, added_entries}

moved_sound : (live live' : List ℕ) (look look' : ℕ → Option Entry) (under under' : List ℕ → List ℕ → Option ℕ) → live' ≡ live → ((n : ℕ) → look' n ≡ look n) → ((m k : List ℕ) → under' m k ≡ under m k)
    → IsConsistent live look under → IsConsistent live' look' under'
moved_sound live live' look look' under under' lives looks unders sound =
    let look_path : look' ≡ look = λ i n. looks n i in
    let under_path : under' ≡ under = λ i m k. unders m k i in
    subst (λ (l : List ℕ). IsConsistent l look' under') (sym lives) (subst (λ (f : ℕ → Option Entry). IsConsistent live f under') (sym look_path) (subst (λ (u : List ℕ → List ℕ → Option ℕ). IsConsistent live look u) (sym under_path) sound))

-- ---- more room

pub record IsGrown (a b : Inside) : Type 0 where
  pub items : b.live.items ≡ a.live.items
  pub len : vec_len b.live ≡ vec_len a.live
  pub capacity : vec_capacity a.live ≤ vec_capacity b.live
  pub entries : b.entries.entries ≡ a.entries.entries
  pub entries_room : spare a.entries ≤ spare b.entries
  pub subtables : KeepsNumbers a.subtables b.subtables
  pub order : order_of b.subtables ≡ order_of a.subtables
  pub fresh : IsFresh b.fresh

module _ (a b : Inside) (table : IsTable a) (grown : IsGrown a b) where
  grown_sound : IsConsistent b.live.items (look_in b) (number_under b.subtables)
  grown_sound =
      moved_sound a.live.items b.live.items (look_in a) (look_in b) (number_under a.subtables) (number_under b.subtables) grown.items
      (λ n. ap (λ (es : List (ℕ × Placed)). option_map (λ (p : Placed). p.entry) (lookup (nat_eq n) es)) grown.entries) grown.subtables.numbers table.consistent

  pub grown_table : b.room ≡ a.room → b.fresh ≡ a.fresh → IsTable b
  grown_table same_room same_fresh = record {
    consistent = grown_sound;
    room = λ mask is. let before = table.room mask (ap (option_map (λ m. bits m)) (sym same_room) ∙ is) in record {
      entries = omega (arith, before.entries, grown.entries_room);
      live = omega (arith, before.live, grown.len, grown.capacity);
      subtables = omega (arith, before.subtables, grown.subtables.room.subtables);
      subtable = λ subtable at. let was = grown.subtables.room.within mask subtable at in let roomy = before.subtable was.0 was.1 in omega (arith, roomy, was.2);
      fresh = ap (option_map (λ (f : Fresh). bits f.mask)) same_fresh ∙ before.fresh;
    };
    fresh = grown.fresh;
    masked = kept_masked a.subtables b.subtables grown.subtables.room table.masked;
    used = kept_used a.subtables b.subtables grown.subtables table.used;
    ranked = same_ranked a.subtables b.subtables grown.order table.ranked;
  }

  pub ready_table : (mask : Mask) → b.room ≡ Some mask → 0 < spare b.entries → vec_len b.live < vec_capacity b.live → 0 < spare b.subtables
      → HasRoomUnder b.subtables (bits mask) → IsFreshUnder b.fresh (bits mask) → IsTable b
  ready_table mask room entries live subtables subtable fresh = record {
    consistent = grown_sound;
    room = λ other is. record {
      entries = entries;
      live = live;
      subtables = subtables;
      subtable = λ i at. subtable i (ap (subtable_of b.subtables) (same_Some (bits mask) other (ap (option_map (λ m. bits m)) (sym room) ∙ is)) ∙ at);
      fresh = fresh ∙ sym (ap (option_map (λ m. bits m)) room) ∙ is;
    };
    fresh = grown.fresh;
    masked = kept_masked a.subtables b.subtables grown.subtables.room table.masked;
    used = kept_used a.subtables b.subtables grown.subtables table.used;
    ranked = same_ranked a.subtables b.subtables grown.order table.ranked;
  }

-- ---- one more hit

pub counted_table : (a : Inside) (subtables : Subtables) → IsTable a → KeepsNumbers a.subtables subtables → IsRanked subtables → IsTable (record a { subtables = subtables })
counted_table a subtables table keeps ranked = record {
  consistent =
      moved_sound a.live.items a.live.items (look_in a) (look_in a) (number_under a.subtables) (number_under subtables) refl (λ n. refl) keeps.numbers table.consistent;
  room = λ mask is. let before = table.room mask is in record {
    entries = before.entries;
    live = before.live;
    subtables = omega (arith, before.subtables, keeps.room.subtables);
    subtable = λ subtable at. let was = keeps.room.within mask subtable at in let roomy = before.subtable was.0 was.1 in omega (arith, roomy, was.2);
    fresh = before.fresh;
  };
  fresh = table.fresh;
  masked = kept_masked a.subtables subtables keeps.room table.masked;
  used = kept_used a.subtables subtables keeps table.used;
  ranked = ranked;
}

-- ---- one less

pub record IsLess (a b : Inside) (number : ℕ) (e : Entry) : Type 0 where
  pub at : look_in a number ≡ Some e
  pub items : b.live.items ≡ filter (λ n. not (n == number)) a.live.items
  pub len : vec_len b.live ≤ vec_len a.live
  pub capacity : vec_capacity b.live ≡ vec_capacity a.live
  pub entries : (n : ℕ) → look_in b n ≡ cond (number == n) None (look_in a n)
  pub entries_room : spare a.entries ≤ spare b.entries
  pub changes : ChangesOnly a.subtables b.subtables (bits e.mask) (masked_key e) None
  pub subtables_room : KeepsRoom a.subtables b.subtables
  pub used : HasNumbers b.subtables
  pub ranked : IsRanked b.subtables
  pub fresh : b.fresh ≡ a.fresh
  pub room : b.room ≡ a.room
  pub limit : b.limit ≡ a.limit

module _ (a b : Inside) (number : ℕ) (e : Entry) (table : IsTable a) (less : IsLess a b number e) where
  pub less_table : IsTable b
  less_table = record {
    consistent = subst (λ (l : List ℕ). IsConsistent l (look_in b) (number_under b.subtables)) (sym less.items)
        (removed_sound (look_in a) (look_in b) number less.entries a.live.items (number_under a.subtables) (number_under b.subtables) table.consistent e less.at less.changes);
    room = λ mask is. let before = table.room mask (ap (option_map (λ m. bits m)) (sym less.room) ∙ is) in record {
      entries = omega (arith, before.entries, less.entries_room);
      live = omega (arith, before.live, less.len, less.capacity);
      subtables = omega (arith, before.subtables, less.subtables_room.subtables);
      subtable = λ subtable at. let was = less.subtables_room.within mask subtable at in let roomy = before.subtable was.0 was.1 in omega (arith, roomy, was.2);
      fresh = ap (option_map (λ (f : Fresh). bits f.mask)) less.fresh ∙ before.fresh;
    };
    fresh = λ f is. table.fresh f (sym less.fresh ∙ is);
    masked = kept_masked a.subtables b.subtables less.subtables_room table.masked;
    used = less.used;
    ranked = less.ranked;
  }

  pub less_flows : (flows : Flows) → flows_in a ≡ flows → flows_in b ≡ record flows { entries = without number flows.entries; order = order_of b.subtables }
  less_flows flows view =
      (λ i. record { limit = less.limit i; entries = listed i; room = option_map (λ m. bits m) (less.room i); order = order_of b.subtables })
      ∙ ap (λ (f : Flows). record f { entries = without number f.entries; order = order_of b.subtables }) view
    where
      listed : entries_by (look_in b) b.live.items ≡ without number (entries_by (look_in a) a.live.items)
      listed = ap (entries_by (look_in b)) less.items ∙ removed_entries (look_in a) (look_in b) number less.entries a.live.items table.consistent.found

-- ---- one more

pub record IsMore (a b : Inside) (e : Entry) : Type 0 where
  pub items : b.live.items ≡ a.live.items ++ e.number ∷ []
  pub entries : (n : ℕ) → look_in b n ≡ cond (e.number == n) (Some e) (look_in a n)
  pub changes : ChangesOnly a.subtables b.subtables (bits e.mask) (masked_key e) (Some e.number)
  pub fresh : IsFresh b.fresh
  pub order : AddsMask (bits e.mask) (order_of a.subtables) (order_of b.subtables)
  pub masked : AreUnderMasks b.subtables
  pub ranked : IsRanked b.subtables
  pub room : b.room ≡ None
  pub limit : b.limit ≡ a.limit

module _ (a b : Inside) (e : Entry) (table : IsTable a) (more : IsMore a b e) (above : (n : ℕ) → IsIn n a.live.items → n < e.number)
    (free : (n : ℕ) (f : Entry) → look_in a n ≡ Some f → overlaps (numbers e.key) (bits e.mask) f ≡ false) where
  pub more_table : IsTable b
  more_table = record {
    consistent = subst (λ (l : List ℕ). IsConsistent l (look_in b) (number_under b.subtables)) (sym more.items)
        (added_sound a.live.items (look_in a) (number_under a.subtables) table.consistent e above free (look_in b) more.entries (number_under b.subtables) more.changes);
    room = λ mask is. absurd (none-some mask (ap (option_map (λ m. bits m)) (sym more.room) ∙ is));
    fresh = more.fresh;
    masked = more.masked;
    used = added_used a.subtables b.subtables (bits e.mask) (masked_key e) e.number more.changes more.order table.used;
    ranked = more.ranked;
  }

  pub more_flows : (flows : Flows) → flows_in a ≡ flows → flows_in b ≡ record flows { entries = flows.entries ++ e ∷ []; room = None; order = order_of b.subtables }
  more_flows flows view =
      (λ i. record { limit = more.limit i; entries = listed i; room = option_map (λ m. bits m) (more.room i); order = order_of b.subtables })
      ∙ ap (λ (f : Flows). record f { entries = f.entries ++ e ∷ []; room = None; order = order_of b.subtables }) view
    where
      listed : entries_by (look_in b) b.live.items ≡ entries_by (look_in a) a.live.items ++ e ∷ []
      listed = ap (entries_by (look_in b)) more.items ∙ added_entries a.live.items (look_in a) (number_under a.subtables) table.consistent e above free (look_in b) more.entries (number_under b.subtables) more.changes

module _ (a : Inside) (table : IsTable a) (flows : Flows) (view : flows_in a ≡ flows) (e : Entry) where
  pub above_from : All (λ (f : Entry). f.number < e.number) flows.entries → (n : ℕ) → IsIn n a.live.items → n < e.number
  above_from all n is_in =
      let there = table.consistent.found n is_in in
      let before : All (λ (f : Entry). f.number < e.number) (entries_by (look_in a) a.live.items) = subst (λ (f : Flows). All (λ (g : Entry). g.number < e.number) f.entries) (sym view) all in
      subst (λ (m : ℕ). m < e.number) there.2 (all_by (look_in a) (λ (f : Entry). f.number < e.number) a.live.items table.consistent.found before n there.0 is_in there.1)

  pub free_from : All (λ (f : Entry). overlaps (numbers e.key) (bits e.mask) f ≡ false) flows.entries → (n : ℕ) (f : Entry) → look_in a n ≡ Some f → overlaps (numbers e.key) (bits e.mask) f ≡ false
  free_from all n f is =
      let before : All (λ (f : Entry). overlaps (numbers e.key) (bits e.mask) f ≡ false) (entries_by (look_in a) a.live.items) =
      subst (λ (g : Flows). All (λ (h : Entry). overlaps (numbers e.key) (bits e.mask) h ≡ false) g.entries) (sym view) all in
      all_by (look_in a) (λ (g : Entry). overlaps (numbers e.key) (bits e.mask) g ≡ false) a.live.items table.consistent.found before n f (table.consistent.within n f is) is
