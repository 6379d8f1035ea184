-- A frame for which an entry is installed, by the fields of caches.
use Rattle.std.proofs.Common.{◌≡◌, ℕ, ◌+◌, ◌<◌, ◌≤◌, Bool, false, List, [], ◌∷◌, ◌++◌, map, length, length-append, refl, sym, ap, ap₂, subst, ◌∙◌, arith}
use Rattle.std.specs.Prelude.{All, filter, not, slice_get}
use Rattle.std.specs.Global.{Vec}
use Rattle.std.proofs.lemmas.Bool.{not-true}
use Rattle.std.proofs.lemmas.List.{length-map, map-append}
use Rattle.std.proofs.lemmas.List.Filters.{length-filter_both}
use Rattle.table_laws.proofs.MemberLaws.{Among, All_from-Among}
use Rattle.spec_actions.specs.declared.action.DpAction.{DpAction}
use Rattle.spec_board.specs.State as states
use Rattle.spec_board.specs.Results as board
use Rattle.spec_board.specs.Effects.{credited_by, is_among}
use Rattle.port_caches.specs.Sums.{IsCountable}
use Rattle.megaflow_table.specs.declared.entry.Entry.{Entry}
use Rattle.megaflow_table.specs.Entries as flow
use Rattle.port_caches.specs.declared.lists.HeldList.{HeldList}
use Rattle.port_caches.specs.declared.caches.PortCaches.TheInside.{Inside}
use Rattle.port_caches.specs.Lists.{actions_at, room_in}
use Rattle.port_caches.specs.Views.{entry_view}
use Rattle.port_caches.specs.Drops.{ArePayable, entries_after, totals_after}
use Rattle.port_caches.specs.Kept.{AreKept, caches_in}
use Rattle.port_caches.specs.Steps.{AreRules, IsSame}
use Rattle.port_caches.proofs.ListLaws.{filter-map, filter_same, among-filter}
use Rattle.port_caches.proofs.HeldLists.{held_list, pushed_there, held_has}
use Rattle.port_caches.proofs.Kept.{kept_at, kept_more, kept-filter, kept_push}
use Rattle.port_caches.proofs.Views.{numbers_of-view, pushed_views}
use Rattle.port_caches.proofs.Drops.{entries_after-filter, totals_after-filter, payable-filter, among_numbers, totals_grow}
use Rattle.port_caches.proofs.Settles.{stays}

pub reserved_same : (a : Inside) (lists : Vec HeldList) → lists.items ≡ a.lists.items → room_in a.lists ≤ room_in lists → IsSame (caches_in a) (caches_in (record a { lists = lists }))
reserved_same a lists items room = (
  λ i. record {
    limit = a.flows.limit;
    entries = map (entry_view (items i)) a.flows.entries;
    made = a.made;
    slots = a.exact;
    rules = length a.totals;
    totals = a.totals;
    lists = items i;
    room = room_in lists;
  },
  room,
)

module _ (a : Inside) (kept : AreKept (length a.lists.items) a.made (length a.totals) a.flows.entries) (key mask : List ℕ) where
  abbrev pub overlapping : Entry → Bool
  overlapping e = flow.overlaps key mask e

  abbrev pub gone : List Entry
  gone = filter overlapping a.flows.entries

  abbrev pub left : List Entry
  left = filter (λ (e : Entry). not (overlapping e)) a.flows.entries

  abbrev pub numbers : List ℕ
  numbers = flow.numbers_of gone

  abbrev view : Entry → states.Entry
  view e = entry_view a.lists.items e

  pub numbers_seen : numbers ≡ board.numbers_of (filter (board.overlaps key mask) (caches_in a).entries)
  numbers_seen = sym (ap board.numbers_of (filter-map view (board.overlaps key mask) a.flows.entries) ∙ numbers_of-view a.lists.items gone)

  pub left_seen : length (filter (λ e. not (board.overlaps key mask e)) (caches_in a).entries) ≡ length left
  left_seen = ap length (filter-map view (λ (e : states.Entry). not (board.overlaps key mask e)) a.flows.entries) ∙ length-map left view

  pub counted : length left + length numbers ≡ length a.flows.entries
  counted =
      let both = length-filter_both overlapping (λ (e : Entry). not (overlapping e)) (λ _. refl) a.flows.entries in
      let named = length-map gone (λ (e : Entry). e.number) in
      omega (arith, both, named)

  is_gone : (e : Entry) → Among e a.flows.entries → is_among numbers e.number ≡ overlapping e
  is_gone e m = among_numbers (length a.lists.items) a.made (length a.totals) overlapping a.flows.entries e kept m

  gone_seen : filter (λ (e : states.Entry). is_among numbers e.number) (caches_in a).entries ≡ map view gone
  gone_seen = filter-map view (λ (e : states.Entry). is_among numbers e.number) a.flows.entries
      ∙ ap (map view) (filter_same (λ (e : Entry). is_among numbers e.number) overlapping a.flows.entries is_gone)

  pub left_view : filter (stays numbers) (caches_in a).entries ≡ map view left
  left_view = filter-map view (stays numbers) a.flows.entries
      ∙ ap (map view) (filter_same (λ (e : Entry). not (is_among numbers e.number)) (λ (e : Entry). not (overlapping e)) a.flows.entries (λ e m. ap not (is_gone e m)))

  -- ---- what `displace` asks and gives

  module _ (ns : List ℕ) (ns_is : ns ≡ numbers) (es : List Entry) (es_is : es ≡ a.flows.entries) where
    pub payable : (rules : ℕ) → rules ≡ length a.totals → ArePayable rules ns es
    payable rules rules_is =
        subst (λ (r : ℕ). ArePayable r ns es) (sym rules_is)
        (subst (λ (xs : List ℕ). ArePayable (length a.totals) xs es) (sym ns_is)
        (subst (ArePayable (length a.totals) numbers) (sym es_is) (payable-filter (length a.lists.items) a.made (length a.totals) overlapping a.flows.entries kept)))

    pub entries_left : entries_after ns es ≡ left
    entries_left = ap₂ entries_after ns_is es_is ∙ entries_after-filter (length a.lists.items) a.made (length a.totals) overlapping a.flows.entries kept

    pub totals_seen : (totals once : ℕ → states.Total) → ((rule : ℕ) → totals rule ≡ once rule) → (rule : ℕ)
        → totals_after ns es totals rule ≡ credited_by (filter (λ (e : states.Entry). is_among numbers e.number) (caches_in a).entries) once rule
    totals_seen totals once alike rule =
        (λ i. totals_after (ns_is i) (es_is i) (λ r. alike r i) rule)
        ∙ ap (λ (ts : ℕ → states.Total). ts rule) (totals_after-filter (length a.lists.items) a.made (length a.totals) overlapping a.lists.items a.flows.entries once kept)
        ∙ ap (λ (xs : List states.Entry). credited_by xs once rule) (sym gone_seen)

    pub below : All (λ (e : Entry). e.number < a.made + 1) (entries_after ns es)
    below =
        subst (All (λ (e : Entry). e.number < a.made + 1)) (sym entries_left)
        (All_from-Among (λ (e : Entry). e.number < a.made + 1) left
        (λ e m. let here = kept_at (length a.lists.items) a.made (length a.totals) a.flows.entries e kept (among-filter (λ (x : Entry). not (overlapping x)) a.flows.entries e m).0 in omega (arith, here.number)))

    pub free : All (λ (e : Entry). flow.overlaps key mask e ≡ false) (entries_after ns es)
    free =
        subst (All (λ (e : Entry). flow.overlaps key mask e ≡ false)) (sym entries_left)
        (All_from-Among (λ (e : Entry). flow.overlaps key mask e ≡ false) left
        (λ e m. not-true (overlapping e) (among-filter (λ (x : Entry). not (overlapping x)) a.flows.entries e m).1))

  -- what is credited first fits where all that is credited does
  pub first_fits : (once : ℕ → states.Total) → ((rule : ℕ) → IsCountable (credited_by (filter (λ (e : states.Entry). is_among numbers e.number) (caches_in a).entries) once rule))
      → (rule : ℕ) → IsCountable (once rule)
  first_fits once fits rule =
      let all : IsCountable (totals_after numbers a.flows.entries once rule) = subst IsCountable (sym (totals_seen numbers refl a.flows.entries refl once once (λ r. refl) rule)) (fits rule) in
      let more = totals_grow numbers a.flows.entries once rule in
      record { packets = omega (arith, more.0, all.packets); bytes = omega (arith, more.1, all.bytes) }

  -- ---- the entries afterwards

  module _ (e : Entry) (flows : List Entry) (flows_are : flows ≡ left ++ e ∷ []) (lists : List HeldList) (actions : List DpAction) (lists_are : lists ≡ a.lists.items ++ held_list actions ∷ [])
      (list : e.actions ≡ length a.lists.items) (number : e.number ≡ a.made + 1) (rules : ℕ) (rules_is : rules ≡ length a.totals) (visits : AreRules rules e.visits) where
    longer : length lists ≡ length a.lists.items + 1
    longer = ap length lists_are ∙ length-append a.lists.items (held_list actions ∷ [])

    kept_left : AreKept (length a.lists.items) a.made (length a.totals) left
    kept_left = kept-filter (length a.lists.items) a.made (length a.totals) (λ (x : Entry). not (overlapping x)) a.flows.entries kept

    pub anew_kept : AreKept (length lists) (a.made + 1) rules flows
    anew_kept =
        subst (AreKept (length lists) (a.made + 1) rules) (sym flows_are)
        (kept_push (length lists) (a.made + 1) rules left e
        (kept_more (length a.lists.items) (length lists) a.made (a.made + 1) (length a.totals) rules left (omega (arith, longer)) (omega arith) rules_is kept_left)
        (record { list = omega (arith, list, longer); number = omega (arith, number); visits = visits })
        (λ d m.
        let here = kept_at (length a.lists.items) a.made (length a.totals) left d kept_left m in
        ((λ same. omega (arith, same, here.number, number)), (λ same. omega (arith, same, here.list, list)))))

    pub anew_view : (fresh : states.Entry) → entry_view lists e ≡ fresh → map (entry_view lists) flows ≡ filter (stays numbers) (caches_in a).entries ++ fresh ∷ []
    anew_view fresh same =
        ap (map (entry_view lists)) flows_are
        ∙ map-append (entry_view lists) left (e ∷ [])
        ∙ ap₂ (λ (xs : List states.Entry) (x : states.Entry). xs ++ x ∷ [])
        (pushed_views a.lists.items lists (held_list actions) a.made (length a.totals) left lists_are kept_left ∙ sym left_view) same

    pub new_actions : actions_at lists e.actions ≡ actions
    new_actions = held_has lists e.actions actions (ap₂ (λ (ls : List HeldList) (n : ℕ). slice_get ls n) lists_are list ∙ pushed_there a.lists.items (held_list actions))
