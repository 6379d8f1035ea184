use Rattle.std.proofs.Common.{◌≡◌, ℕ, List, Option, Some, None, ap, sym, subst, ◌∙◌}
use Rattle.std.specs.Prelude.{is_some}
use Rattle.spec_board.specs.Cache.{cached}
use Rattle.ovs_fields.specs.Packed.{numbers}
use Rattle.port_caches.specs.declared.caches.PortCaches.TheInside.{Inside}
use Rattle.port_caches.specs.Views.{Caches, AreCachesOf}
use Rattle.port_caches.specs.Kept.{caches_in}
use Rattle.port_caches.proofs.ListLaws.{is_some-option_copied}
use Rattle.port_caches.proofs.Looks.{not_cached, not_live, looked_exact, looked_mega, looked_miss}
use Rattle.port_caches.proofs.caches.PortCaches.known.Goals as goal
use Rattle.port_caches.proofs.caches.PortCaches.known.Goals.{in-Some+else-is_some, in_default}

-- what the exact-match cache names for a key, by the fields of caches
named_in : (a : Inside) (caches : Caches) (key : List ℕ) (named is : Option ℕ) → caches_in a ≡ caches → named ≡ cached caches.slots key → named ≡ is → cached a.exact key ≡ is
named_in a caches key named is view clause same = ap (λ (v : Caches). cached v.slots key) view ∙ sym clause ∙ same

pub returns-then-is_some : goal.returns-then-is_some
returns-then-is_some c s of =
    let of_fields : AreCachesOf (caches_in c.self.inside) s = subst (λ (v : Caches). AreCachesOf v s) (sym c.self.view_is) of in
    looked_exact c.self.inside s of_fields (numbers c.args.key.now) c.in-Some.number (named_in c.self.inside c.args.self.now (numbers c.args.key.now) c.args.named (Some c.in-Some.number) c.self.view_is c.requires c.in-Some.is)
    (ap is_some (sym c.get_seen.ensures) ∙ is_some-option_copied c.get_seen.result ∙ sym c.is_some.ensures ∙ c.if-is_some.true)

pub returns-in-Some-find : goal.returns-in-Some-find
returns-in-Some-find c s of =
    let of_fields : AreCachesOf (caches_in c.self.inside) s = subst (λ (v : Caches). AreCachesOf v s) (sym c.self.view_is) of in
    elim c.match-named.branch [
      | in-Some+else-is_some w ↦
          looked_mega c.self.inside s of_fields (numbers c.args.key.now)
          (not_live c.self.inside s of_fields (numbers c.args.key.now) w.in-Some.number (named_in c.self.inside c.args.self.now (numbers c.args.key.now) c.args.named (Some w.in-Some.number) c.self.view_is c.requires w.in-Some.is)
          (ap is_some (sym w.get_seen.ensures) ∙ is_some-option_copied w.get_seen.result ∙ sym w.is_some.ensures ∙ w.if-is_some.false))
          c.in-Some-find.number c.in-Some-find.ensures
      | in_default w ↦
          looked_mega c.self.inside s of_fields (numbers c.args.key.now)
          (not_cached c.self.inside s of_fields (numbers c.args.key.now) (named_in c.self.inside c.args.self.now (numbers c.args.key.now) c.args.named None c.self.view_is c.requires w.in_default.is))
          c.in-Some-find.number c.in-Some-find.ensures
    ]

pub returns-in-None : goal.returns-in-None
returns-in-None c s of =
    let of_fields : AreCachesOf (caches_in c.self.inside) s = subst (λ (v : Caches). AreCachesOf v s) (sym c.self.view_is) of in
    elim c.match-named.branch [
      | in-Some+else-is_some w ↦
          looked_miss c.self.inside s of_fields (numbers c.args.key.now)
          (not_live c.self.inside s of_fields (numbers c.args.key.now) w.in-Some.number (named_in c.self.inside c.args.self.now (numbers c.args.key.now) c.args.named (Some w.in-Some.number) c.self.view_is c.requires w.in-Some.is)
          (ap is_some (sym w.get_seen.ensures) ∙ is_some-option_copied w.get_seen.result ∙ sym w.is_some.ensures ∙ w.if-is_some.false))
          c.in-None.ensures
      | in_default w ↦
          looked_miss c.self.inside s of_fields (numbers c.args.key.now)
          (not_cached c.self.inside s of_fields (numbers c.args.key.now) (named_in c.self.inside c.args.self.now (numbers c.args.key.now) c.args.named None c.self.view_is c.requires w.in_default.is))
          c.in-None.ensures
    ]
