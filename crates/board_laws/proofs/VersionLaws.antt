-- The versions of a board stand in order: what every step keeps.
use Rattle.std.proofs.Common.{◌≡◌, ℕ, ◌≤◌, max, List, [], ◌∷◌, refl, sym, ap, ◌∙◌, arith}
use Rattle.std.proofs.lemmas.Bool.{false≢true}
use Rattle.std.proofs.lemmas.List.{nil_from_length}
use Rattle.spec_case.specs.Run.{Run, last_version}
use Rattle.spec_case.specs.Blocks.{AreInOrder, hi}
use Rattle.spec_board.specs.declared.looked.Looked.TheVariants.{Exact, Mega, Miss}
use Rattle.spec_board.specs.declared.put_done.PutDone.TheVariants.{Idle, Removed, Kept, Replaced}
use Rattle.spec_board.specs.Steps.{Step, Open, Look, Settle, Begin, Put, End, Present, Full, Installed}
use Rattle.spec_board.specs.State.{State}
use Rattle.spec_board.specs.Effects.{effect}
use Rattle.spec_board.specs.Journals.{Legal, opened}
use Rattle.board_laws.proofs.Changes.{others, outside}
use Rattle.board_laws.specs.Versions.{HasVersionsInOrder}
use Rattle.board_laws.proofs.Refusals.{may_settle, may_begin, may_open, may_put, may_end}

pub versions_opened : (run : Run) (port : ℕ) → HasVersionsInOrder run (opened run port)
versions_opened run port = record {
  from_block = omega arith;
  done_floor = omega arith;
  floor_newest = omega arith;
  within_block = omega arith;
  at_rest = λ _. refl;
  none_listed = λ _. refl;
  block_there = omega arith;
}

module _ (run : Run) (port limit : ℕ) (in_order : AreInOrder run.syncs (last_version run)) (s : State) (k : HasVersionsInOrder run s) where
  open_keeps : (block : ℕ) → Legal run port limit s (Open block) → HasVersionsInOrder run (effect run port s (Open block))
  open_keeps block legal = let m = may_open run port s block legal in record {
    from_block = m.swept;
    done_floor = k.done_floor;
    floor_newest = k.floor_newest;
    within_block = rw m.next (omega (arith, k.within_block, (in_order s.block).0));
    at_rest = k.at_rest;
    none_listed = k.none_listed;
    block_there = m.there;
  }

  -- a step that carries a version, and may take entries off the list
  carried : (t : State) (v : ℕ) → v ≤ hi run s.block → t.block ≡ s.block → t.done ≡ s.done → t.floor ≡ s.floor
      → t.newest ≡ max s.newest v → t.is_sweeping ≡ s.is_sweeping → (s.listed ≡ [] → t.listed ≡ []) → HasVersionsInOrder run t
  carried t v h b d f n i l = record {
    from_block = rw (b, d) k.from_block;
    done_floor = rw (d, f) k.done_floor;
    floor_newest = rw (f, n) (omega (arith, k.floor_newest));
    within_block = rw (b, n) (omega (arith, k.within_block, h));
    at_rest = λ e. d ∙ k.at_rest (sym i ∙ e) ∙ sym f;
    none_listed = λ e. l (k.none_listed (sym i ∙ e));
    block_there = rw b k.block_there;
  }

  -- a step that leaves them all
  same : (t : State) → t.block ≡ s.block → t.done ≡ s.done → t.floor ≡ s.floor → t.newest ≡ s.newest → t.is_sweeping ≡ s.is_sweeping
      → t.listed ≡ s.listed → HasVersionsInOrder run t
  same t b d f n i l = record {
    from_block = rw (b, d) k.from_block;
    done_floor = rw (d, f) k.done_floor;
    floor_newest = rw (f, n) k.floor_newest;
    within_block = rw (b, n) k.within_block;
    at_rest = λ e. d ∙ k.at_rest (sym i ∙ e) ∙ sym f;
    none_listed = λ e. l ∙ k.none_listed (sym i ∙ e);
    block_there = rw b k.block_there;
  }

  begin_keeps : (v : ℕ) → Legal run port limit s (Begin v) → HasVersionsInOrder run (effect run port s (Begin v))
  begin_keeps v legal = let m = may_begin run s v legal in record {
    from_block = k.from_block;
    done_floor = omega (arith, k.done_floor);
    floor_newest = omega (arith, k.floor_newest);
    within_block = omega (arith, k.within_block, m.1);
    at_rest = λ e. absurd (false≢true (sym e));
    none_listed = λ e. absurd (false≢true (sym e));
    block_there = k.block_there;
  }

  end_keeps : Legal run port limit s End → HasVersionsInOrder run (effect run port s End)
  end_keeps legal = record {
    from_block = omega (arith, k.from_block, k.done_floor);
    done_floor = omega arith;
    floor_newest = k.floor_newest;
    within_block = k.within_block;
    at_rest = λ _. refl;
    none_listed = λ _. nil_from_length s.listed (may_end s legal).1;
    block_there = k.block_there;
  }

  pub versions_keep : (step : Step) → Legal run port limit s step → HasVersionsInOrder run (effect run port s step)
  versions_keep (Open block) legal = open_keeps block legal
  versions_keep (Look place (Exact n)) legal = same _ refl refl refl refl refl refl
  versions_keep (Look place (Mega n)) legal = same _ refl refl refl refl refl refl
  versions_keep (Look place Miss) legal = same _ refl refl refl refl refl refl
  versions_keep (Settle place v (Present n)) legal = carried _ v (may_settle run s place v legal.0).not_ahead refl refl refl refl refl (λ e. e)
  versions_keep (Settle place v Full) legal = carried _ v (may_settle run s place v legal.0).not_ahead refl refl refl refl refl (λ e. e)
  versions_keep (Settle place v (Installed n numbers)) legal = carried _ v (may_settle run s place v legal.0).not_ahead refl refl refl refl refl (ap (outside numbers))
  versions_keep (Begin v) legal = begin_keeps v legal
  versions_keep (Put n v Idle) legal = carried _ v (may_put run s n v legal.0).not_ahead refl refl refl refl refl (ap (λ (ns : List ℕ). outside (n ∷ []) (others n ns)))
  versions_keep (Put n v Removed) legal = carried _ v (may_put run s n v legal.0).not_ahead refl refl refl refl refl (ap (λ (ns : List ℕ). outside (n ∷ []) (others n ns)))
  versions_keep (Put n v Kept) legal = carried _ v (may_put run s n v legal.0).not_ahead refl refl refl refl refl (ap (others n))
  versions_keep (Put n v Replaced) legal = carried _ v (may_put run s n v legal.0).not_ahead refl refl refl refl refl (ap (others n))
  versions_keep End legal = end_keeps legal
