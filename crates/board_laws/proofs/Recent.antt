-- The versions of entries: what every step keeps.
use Rattle.std.proofs.Common.{◌≡◌, ℕ, ◌≤◌, List, inl, inr, refl, sym, ap, ◌∙◌, arith}
use Rattle.std.proofs.lemmas.Bool.{false≢true}
use Rattle.std.proofs.lemmas.List.{nil_from_length}
use Rattle.spec_case.specs.Run.{Run}
use Rattle.spec_board.specs.declared.looked.Looked.TheVariants.{Exact, Mega, Miss}
use Rattle.spec_board.specs.declared.put_done.PutDone.TheVariants.{Idle, Removed, Kept, Replaced}
use Rattle.spec_board.specs.Steps.{Step, Open, Look, Settle, Begin, Put, End, Present, Full, Installed}
use Rattle.spec_board.specs.State.{Entry, State}
use Rattle.spec_board.specs.Results.{numbers_of}
use Rattle.spec_board.specs.Effects.{effect, is_among}
use Rattle.spec_board.specs.Journals.{Legal}
use Rattle.table_laws.proofs.MemberLaws.{Among}
use Rattle.board_laws.specs.Versions.{HasVersionsInOrder, IsRecent}
use Rattle.board_laws.proofs.NumberLaws.{number_among, Among-is_among}
use Rattle.board_laws.proofs.Refusals.{may_end}
use Rattle.board_laws.proofs.Apart.{AreEntriesApart}
use Rattle.board_laws.proofs.Origins.{IsTranslated, Origin, origin}

module _ (run : Run) (port limit : ℕ) (s : State) (k : AreEntriesApart s) (w : HasVersionsInOrder run s) (recent : (e : Entry) → Among e s.entries → IsRecent s e) where
  translated_recent : (t : State) → t.done ≡ s.done → t.floor ≡ s.floor → (e : Entry) → IsTranslated run s t e → IsRecent t e
  translated_recent t d f e n = record {
    not_older = omega (arith, d, w.done_floor, n.not_stale);
    not_newer = n.carried;
    swept = λ _. omega (arith, f, n.not_stale);
  }

  recent_by : (t : State) → t.done ≡ s.done → t.floor ≡ s.floor → s.newest ≤ t.newest → (e : Entry) → Origin run port s t e → IsRecent t e
  recent_by t d f l e (inl (c, h)) = let r = recent c h.before in record {
    not_older = omega (arith, d, h.same.version, r.not_older);
    not_newer = omega (arith, l, h.same.version, r.not_newer);
    swept = λ a. omega (arith, f, h.same.version, r.swept (ap (is_among s.listed) (sym h.same.number) ∙ h.listed a));
  }
  recent_by t d f l e (inr (inl (c, h))) = translated_recent t d f e h.new
  recent_by t d f l e (inr (inr h)) = translated_recent t d f e h.new

  -- a step that leaves the versions of sweeps
  unswept : (step : Step) → Legal run port limit s step → (effect run port s step).done ≡ s.done → (effect run port s step).floor ≡ s.floor
      → s.newest ≤ (effect run port s step).newest → (e : Entry) → Among e (effect run port s step).entries → IsRecent (effect run port s step) e
  unswept step legal d f l e m = recent_by (effect run port s step) d f l e (origin run port limit s k.rising step legal e m)

  -- a sweep begins: all entries are listed
  begun : (v : ℕ) (e : Entry) → Among e s.entries → IsRecent (effect run port s (Begin v)) e
  begun v e m = let r = recent e m in record {
    not_older = r.not_older;
    not_newer = omega (arith, r.not_newer);
    swept = λ a. absurd (false≢true (sym a ∙ Among-is_among (numbers_of s.entries) e.number (number_among e s.entries m)));
  }

  -- a sweep ends: none is
  ended : Legal run port limit s End → (e : Entry) → Among e s.entries → IsRecent (effect run port s End) e
  ended legal e m = let r = recent e m in record {
    not_older = r.swept (ap (λ (ns : List ℕ). is_among ns e.number) (nil_from_length s.listed (may_end s legal).1));
    not_newer = r.not_newer;
    swept = r.swept;
  }

  pub recent_keeps : (step : Step) → Legal run port limit s step → (e : Entry) → Among e (effect run port s step).entries → IsRecent (effect run port s step) e
  recent_keeps (Open block) legal = unswept (Open block) legal refl refl (omega arith)
  recent_keeps (Look place (Exact n)) legal = unswept (Look place (Exact n)) legal refl refl (omega arith)
  recent_keeps (Look place (Mega n)) legal = unswept (Look place (Mega n)) legal refl refl (omega arith)
  recent_keeps (Look place Miss) legal = unswept (Look place Miss) legal refl refl (omega arith)
  recent_keeps (Settle place v (Present n)) legal = unswept (Settle place v (Present n)) legal refl refl (omega arith)
  recent_keeps (Settle place v Full) legal = unswept (Settle place v Full) legal refl refl (omega arith)
  recent_keeps (Settle place v (Installed n numbers)) legal = unswept (Settle place v (Installed n numbers)) legal refl refl (omega arith)
  recent_keeps (Begin v) legal = begun v
  recent_keeps (Put n v Idle) legal = unswept (Put n v Idle) legal refl refl (omega arith)
  recent_keeps (Put n v Removed) legal = unswept (Put n v Removed) legal refl refl (omega arith)
  recent_keeps (Put n v Kept) legal = unswept (Put n v Kept) legal refl refl (omega arith)
  recent_keeps (Put n v Replaced) legal = unswept (Put n v Replaced) legal refl refl (omega arith)
  recent_keeps End legal = ended legal
