-- Entries are right: what every step keeps.
use Rattle.std.proofs.Common.{◌≡◌, ℕ, true, List, inl, inr, sym, ap, ◌∙◌, subst}
use Rattle.spec_keys.specs.Keys.{agree, IsKey, IsClean}
use Rattle.spec_xlate.specs.Translation.{Translation}
use Rattle.spec_case.specs.Run.{Run}
use Rattle.spec_board.specs.State.{Entry, State, place_at, is_pending}
use Rattle.spec_board.specs.Results.{key_at, switch_at, translated}
use Rattle.table_laws.proofs.MemberLaws.{Among}
use Rattle.table_laws.proofs.UnionLaws.{agree-covers}
use Rattle.table_laws.proofs.SoundLaws.{consulted-sound}
use Rattle.board_laws.specs.Entries.{IsMade, IsRight}
use Rattle.board_laws.proofs.KeyFacts.{agree-sym}
use Rattle.board_laws.proofs.Origins.{IsTranslated, Origin}

module _ (run : Run) (port : ℕ) (s t : State)
    (keys : (place : ℕ) → is_pending (place_at place s) ≡ true → IsKey (key_at run port place))
    (clean : (place : ℕ) → IsClean (key_at run port place))
    (made : (e : Entry) → Among e s.entries → IsMade run e) where
  -- an entry that was translated anew, for a key that a frame can have
  made_from : (e : Entry) (key : List ℕ) → e.key ≡ key → IsKey key → IsClean key → IsTranslated run s t e → IsMade run e
  made_from e key is k c n = record {
    key = subst IsKey (sym is) k;
    clean = subst (λ (x : List ℕ). IsClean x) (sym is) c;
    covered = n.covered;
    actions = n.actions;
    visits = n.visits;
  }

  pub made_by : (e : Entry) → Origin run port s t e → IsMade run e
  made_by e (inl (d, h)) = let m = made d h.before in record {
    key = subst IsKey (sym h.same.key) m.key;
    clean = subst (λ (k : List ℕ). IsClean k) (sym h.same.key) m.clean;
    covered = rw (h.same.mask, h.same.version, h.same.key) m.covered;
    actions = rw (h.same.actions, h.same.version, h.same.key) m.actions;
    visits = rw (h.same.visits, h.same.version, h.same.key) m.visits;
  }
  made_by e (inr (inl (d, h))) = let m = made d h.before in made_from e d.key h.key m.key m.clean h.new
  made_by e (inr (inr h)) = made_from e (key_at run port h.place) h.key (keys h.place h.pending) (clean h.place) h.new

-- what an entry gives for a key that it covers
gives : (run : Run) (e : Entry) (key : List ℕ) → IsMade run e → IsKey key → IsClean key → agree key e.key e.mask ≡ true
    → translated run e.version key ≡ translated run e.version e.key
gives run e key m k c h =
    let agrees = agree-covers e.key key e.mask _ m.covered (agree-sym key e.key e.mask h) in
    (consulted-sound (switch_at run e.version) e.key key m.key k m.clean c agrees).same_translation

pub right_from-made : (run : Run) (e : Entry) → IsMade run e → IsRight run e
right_from-made run e m = record {
  actions = λ key k c h. m.actions ∙ ap (λ (t : Translation). t.actions) (sym (gives run e key m k c h));
  visits = λ key k c h. m.visits ∙ ap (λ (t : Translation). t.visits) (sym (gives run e key m k c h));
}
