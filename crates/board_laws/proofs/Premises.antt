-- Why the laws have premises: runs at which they fail without them.
use Rattle.std.specs.Prelude.{true, List, [], ◌∷◌, All, refl}
use Rattle.std.proofs.Common.{arith}
use Rattle.spec_actions.specs.declared.action.OfAction.TheVariants.{Output}
use Rattle.spec_case.specs.Run.{Run}
use Rattle.spec_board.specs.declared.looked.Looked.TheVariants.{Miss}
use Rattle.spec_board.specs.Steps.{Step, Open, Look, Settle, Begin, End, Installed}
use Rattle.spec_board.specs.State.{Entry}
use Rattle.spec_board.specs.Results.{translated, mask_for}
use Rattle.spec_board.specs.Journals.{IsLegal, after}
use Rattle.spec_board.proofs.Shown.{add, sync, shown}
use Rattle.spec_frames.specs.Key.{key_of}
use Rattle.frame_laws.proofs.keys.KeyLaws.{key_of-IsClean, key_of-IsKey}
use Rattle.board_laws.specs.Entries.{IsRight}
use Rattle.board_laws.specs.Versions.{HasVersionsInOrder}

-- Port 65537 has more than 16 bits. The mask of in_port doesn't tell it from port 1, to which the rule sends all.
abbrev wide : Run
wide = record {
  ports = 65537 ∷ 1 ∷ [];
  edits = add 0 [] (Output 1 ∷ []) ∷ [];
  bundles = 1 ∷ [];
  syncs = [];
  traces = record { nanos = true; frames = record { time = 0; bytes = [] } ∷ [] } ∷ record { nanos = true; frames = [] } ∷ [];
  flow_limit = 1;
  steps = [];
}

abbrev wide_steps : List Step
wide_steps = Look 1 Miss ∷ Settle 1 1 (Installed 1 []) ∷ []

wide_is_legal : IsLegal wide 65537 1 wide_steps
unfolding shown
wide_is_legal = ((refl, refl), ((refl, refl), tt))

abbrev the_entry : Entry
the_entry = record {
  number = 1;
  key = key_of 65537 [];
  mask = mask_for wide 1 (key_of 65537 []);
  version = 1;
  actions = (translated wide 1 (key_of 65537 [])).actions;
  visits = (translated wide 1 (key_of 65537 [])).visits;
  packets = 0;
  bytes = 0;
  owed_packets = 0;
  owed_bytes = 0;
  used = 0;
}

ports_of_16_bits_are_needed : All (IsRight wide) (after wide 65537 wide_steps).entries → ⊥
unfolding shown
ports_of_16_bits_are_needed h =
    let r : IsRight wide _ = h 0 the_entry (omega arith) in
    let e = r.actions (key_of 1 []) (key_of-IsKey [] (λ k d l. absurd (omega (arith, l))) 1 (omega arith)) (key_of-IsClean 1 []) refl in
    absurd (cc e)

-- The sync point says that five bundles stand before it, and there is none.
abbrev disordered : Run
disordered = record { ports = []; edits = []; bundles = []; syncs = sync 0 5 ∷ []; traces = []; flow_limit = 0; steps = [] }

abbrev disordered_steps : List Step
disordered_steps = Begin 5 ∷ End ∷ Open 1 ∷ []

disordered_is_legal : IsLegal disordered 1 0 disordered_steps
unfolding shown
disordered_is_legal = (refl, (refl, (refl, tt)))

sync_points_in_order_are_needed : HasVersionsInOrder disordered (after disordered 1 disordered_steps) → ⊥
unfolding shown
sync_points_in_order_are_needed t = let w = t.within_block in omega (arith, w)
