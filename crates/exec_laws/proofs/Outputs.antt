-- The outputs of a translation, one after another: each commit begins with the frame and the key that the one before left.
use Rattle.std.proofs.Common.{◌≡◌, ℕ, false, if◌then◌else◌, List, [], ◌∷◌, ◌++◌, map, All, refl, sym, ap, ap₂, ◌∙◌}
use Rattle.std.proofs.lemmas.Bool.{cond-false}
use Rattle.std.proofs.lemmas.List.Elements.{All-head, All-tail}
use Rattle.spec_keys.specs.declared.field_id.FieldId.{FieldId}
use Rattle.spec_keys.specs.Keys.{value_of}
use Rattle.spec_frames.specs.Key.{key_of}
use Rattle.spec_actions.specs.declared.action.DpAction.{DpAction}
use Rattle.spec_actions.specs.declared.action.DpAction.TheVariants.{Output}
use Rattle.spec_xlate.specs.Commit.{commit}
use Rattle.spec_exec.specs.Sent.{Piece, sent}
use Rattle.exec_laws.specs.ReadBack.{shows}
use Rattle.exec_laws.specs.Sends.{after_actions}
use Rattle.exec_laws.specs.Become.{is_of_tags, is_register, without_registers, CanBecome, KeyedOutput, outputs_of}
use Rattle.exec_laws.proofs.SentLists.{sent-before}
use Rattle.exec_laws.proofs.OnTheWay.{OnTheWay}
use Rattle.exec_laws.proofs.CommitSteps.{map-at, commit-bytes, commit-whole, commit-shows, commit-single}
use Rattle.exec_laws.proofs.Turned.{key-becomes, commit-registers, commit-silent}

module _ (port : ℕ) (frame : List ℕ) where
  abbrev Stays : FieldId → List ℕ → Type 0
  Stays f key = is_register f ≡ false → is_of_tags f ≡ false → shows port frame f ≡ false → value_of key f ≡ value_of (key_of port frame) f

  -- A frame that is reached, where this key is the current one.
  record Reached (g base : List ℕ) : Type 0 where
    there : OnTheWay port frame g
    commits : (next : List ℕ) → commit base next ≡ commit (key_of port g) next
    stays : (f : FieldId) → Stays f (key_of port g)

  becomes : (g base key : List ℕ) → Reached g base → CanBecome port frame key → CanBecome port g key
  becomes g base key at can = record {
    can_turn = record {
      bytes = at.there.bytes;
      whole = at.there.whole;
      in_port = can.can_turn.in_port;
      is_key = can.can_turn.is_key;
      has_proper_tags = can.can_turn.has_proper_tags;
      has_tag_types = can.can_turn.has_tag_types;
      uncovers_none = λ less. at.there.single (can.can_turn.uncovers_none less);
    };
    others_stay = λ f r t s. let hidden = sym (at.there.alike f) ∙ s in can.others_stay f r t hidden ∙ sym (at.stays f r t hidden);
  }

  next-reached : (g base key : List ℕ) → Reached g base → CanBecome port frame key → Reached (after_actions (commit (key_of port g) key) g) key
  next-reached g base key at can =
      let here = becomes g base key at can in
      let now = key-becomes port g key here in
      record {
        there = record {
          bytes = commit-bytes port g key here.can_turn;
          whole = commit-whole port g key here.can_turn;
          alike = λ f. commit-shows port g key here.can_turn f ∙ at.there.alike f;
          single = λ first. commit-single port g key here.can_turn (at.there.single first);
        };
        commits = λ next. sym (commit-registers key next) ∙ ap (λ (k : List ℕ). commit k next) (sym now);
        stays =
            λ f r t s. ap (λ (k : List ℕ). value_of k f) now ∙ map-at (λ q. if is_register q then 0 else value_of key q) f
            ∙ cond-false (is_register f) 0 (value_of key f) r ∙ can.others_stay f r t s;
      }

  one-sent : (g base : List ℕ) (o : KeyedOutput) (outputs : List KeyedOutput) → Reached g base
      → sent (outputs_of base (o ∷ outputs)) g
      ≡ record { port = o.port; bytes = after_actions (commit (key_of port g) o.key) g } ∷ sent (outputs_of o.key outputs) (after_actions (commit (key_of port g) o.key) g)
  unfolding sent outputs_of
  one-sent g base o outputs at =
      ap (λ (actions : List DpAction). sent (actions ++ (Output o.port ∷ outputs_of o.key outputs)) g) (at.commits o.key)
      ∙ sent-before (commit (key_of port g) o.key) (Output o.port ∷ outputs_of o.key outputs) g (commit-silent (key_of port g) o.key)

  all-keys : (g base : List ℕ) (outputs : List KeyedOutput) → Reached g base → All (λ o. CanBecome port frame o.key) outputs
      → map (λ piece. key_of port piece.bytes) (sent (outputs_of base outputs) g) ≡ map (λ o. without_registers o.key) outputs
  unfolding sent outputs_of
  all-keys g base [] at can = refl
  all-keys g base (o ∷ outputs) at can =
      let here = All-head (λ (o : KeyedOutput). CanBecome port frame o.key) o outputs can in
      let after = after_actions (commit (key_of port g) o.key) g in
      ap (map (λ (piece : Piece). key_of port piece.bytes)) (one-sent g base o outputs at)
      ∙ ap₂ (λ (k : List ℕ) (ks : List (List ℕ)). k ∷ ks) (key-becomes port g o.key (becomes g base o.key at here))
      (all-keys after o.key outputs (next-reached g base o.key at here) (All-tail (λ (o : KeyedOutput). CanBecome port frame o.key) o outputs can))

-- each piece has the key of its output
pub outputs-keys : (port : ℕ) (frame : List ℕ) (outputs : List KeyedOutput) → All (λ o. CanBecome port frame o.key) outputs
    → map (λ piece. key_of port piece.bytes) (sent (outputs_of (key_of port frame) outputs) frame) ≡ map (λ o. without_registers o.key) outputs
unfolding sent outputs_of
outputs-keys port frame [] can = refl
outputs-keys port frame (o ∷ outputs) can =
    let first = All-head (λ (o : KeyedOutput). CanBecome port frame o.key) o outputs can in
    all-keys port frame frame (key_of port frame) (o ∷ outputs)
    (record {
      there = record { bytes = first.can_turn.bytes; whole = first.can_turn.whole; alike = λ f. refl; single = λ first. first };
      commits = λ next. refl;
      stays = λ f r t s. refl;
    }) can

-- and goes out at its port
pub outputs-ports : (base frame : List ℕ) (outputs : List KeyedOutput) → map (λ piece. piece.port) (sent (outputs_of base outputs) frame) ≡ map (λ o. o.port) outputs
unfolding sent outputs_of
outputs-ports base frame [] = refl
outputs-ports base frame (o ∷ outputs) =
    let rest = outputs_of o.key outputs in
    ap (map (λ (piece : Piece). piece.port)) (sent-before (commit base o.key) (Output o.port ∷ rest) frame (commit-silent base o.key))
    ∙ ap (λ (ports : List ℕ). o.port ∷ ports) (outputs-ports o.key (after_actions (commit base o.key) frame) outputs)
