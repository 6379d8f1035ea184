-- Checks of a mask, and what they say of other packets.
use Rattle.std.proofs.Common.{◌≡◌, ℕ, Bool, true, false, IsTrue, ◌&&◌, List, [], ◌∷◌, fold, refl, sym, ap, ◌∙◌, subst}
use Rattle.std.proofs.lemmas.Bool.{and_parts}
use Rattle.spec_keys.specs.Fields.{register_fields}
use Rattle.spec_keys.specs.Keys.{agree, IsKey, IsClean}
use Rattle.spec_xlate.specs.Translation.{Switch, Translation, pipe}
use Rattle.spec_xlate.specs.Consulted.{without}
use Rattle.spec_tools.specs.Classes.{IsFrameKey, done}
use Rattle.spec_tools.specs.Classes.Deed.{Datapath}
use Rattle.pipe_model.specs.Events.{Event}
use Rattle.table_diff.specs.Checking.{checked}
use Rattle.table_diff.specs.Deciding.{tells, tells_too, tells_all}
use Rattle.table_diff.specs.Judging.{DoesAll}
use Rattle.table_diff.proofs.TellLaws.{told-sound}

pub fold_checked : (mask : List ℕ) (t : Bool) (events : List Event) → (fold checked (record { mask = mask; fine = t }) events).fine ≡ fold (tells_too mask) t events
fold_checked mask t [] = refl
fold_checked mask t (e ∷ events) = fold_checked mask (t && tells mask e) events

-- What is done to a packet whose translation a mask decides is done to all that agree with it; so it is where they
-- are one key.
pub does : (sw : Switch) (key m mask : List ℕ) (decides : Bool) → IsKey key → IsClean key → (decides ≡ true → mask ≡ without register_fields m)
    → (decides ≡ false → (a b : List ℕ) → IsFrameKey a → IsFrameKey b → IsTrue (agree b a mask) → b ≡ a)
    → (decides ≡ true → tells_all m sw key ≡ true) → (t : Translation) → t ≡ pipe sw key → DoesAll sw key mask (Datapath t.actions)
does sw key m mask true is clean same open_ told t made other frame h =
    told-sound sw key other m is frame.is_key clean frame.clean (told refl) (subst (λ (z : List ℕ). agree other key z ≡ true) (same refl) h)
    ∙ sym (ap (λ (x : Translation). x.actions) made)
does sw key m mask false is clean same open_ told t made other frame h =
    ap (done sw) (open_ refl key other (record { is_key = is; clean = clean }) frame h) ∙ sym (ap (λ (x : Translation). x.actions) made)

-- the same of two switches
pub both_do : (o n : Switch) (key m mask : List ℕ) (old new : Bool) → IsKey key → IsClean key → ((old && new) ≡ true → mask ≡ without register_fields m)
    → ((old && new) ≡ false → (a b : List ℕ) → IsFrameKey a → IsFrameKey b → IsTrue (agree b a mask) → b ≡ a)
    → old ≡ tells_all m o key → new ≡ tells_all m n key → (s t : Translation) → s ≡ pipe o key → t ≡ pipe n key
    → DoesAll o key mask (Datapath s.actions) × DoesAll n key mask (Datapath t.actions)
both_do o n key m mask old new is clean same open_ old_told new_told s t made_old made_new = (
  does o key m mask (old && new) is clean same open_ (λ h. sym old_told ∙ (and_parts old new h).0) s made_old,
  does n key m mask (old && new) is clean same open_ (λ h. sym new_told ∙ (and_parts old new h).1) t made_new,
)
