use Rattle.std.proofs.Common.{◌≡◌, Bool, true, false, nat_eq, sym, ap, ◌∙◌, refl}
use Rattle.std.proofs.lemmas.Bool.{eq-eqb, ne_eqb}
use Rattle.spec_keys.specs.Keys.{same}
use Rattle.spec_keys.specs.Hash.{key_hash}
use Rattle.ovs_fields.specs.Packed.{numbers}
use Rattle.ovs_fields.specs.Equality.{equal_from_same}
use Rattle.exact_cache.proofs.kept.Kept.is_of.Goals as goal

pub returns-else-self-key : goal.returns-else-self-key
returns-else-self-key c =
    at (same (numbers c.args.self.now.key) (numbers c.args.key.key.now)) refl
  where
    -- equal keys have equal hashes
    at : (t : Bool) → same (numbers c.args.self.now.key) (numbers c.args.key.key.now) ≡ t → nat_eq c.args.self.now.hash c.args.key.hash ≡ t
    at true alike =
        let equal = equal_from_same (numbers c.args.self.now.key) (numbers c.args.key.key.now) alike in
        eq-eqb c.args.self.now.hash c.args.key.hash (c.args.self.now.hashed ∙ ap key_hash equal ∙ sym c.args.key.hashed)
    at false unlike = ne_eqb c.args.self.now.hash c.args.key.hash c.if-self-key.false
