-- What a list of lines says of the frames of two runs, and of what these write.
use Rattle.std.proofs.Common.{◌≡◌, ◌⊎◌, inl, inr, ℕ, suc, ◌≤◌, ◌==◌, ◌||◌, Bool, true, false, List, [], ◌∷◌, length, All, refl, sym, ap, ap₂, ◌∙◌, subst, arith}
use Rattle.std.specs.List.{flat_map, filter_map, list_any}
use Rattle.std.proofs.Math.Path.{fun_ext}
use Rattle.std.proofs.lemmas.Bool.{eqb-true}
use Rattle.spec_pcap.specs.Pcap.{Capture, Frame, file_of}
use Rattle.spec_actions.specs.declared.action.DpAction.{DpAction}
use Rattle.spec_case.specs.declared.arrival.Arrival.{Arrival}
use Rattle.spec_case.specs.Run.{Run, frames_of, frame_at, is_nanos}
use Rattle.spec_case.specs.Arrivals.{arrivals, in_order}
use Rattle.spec_board.specs.Results.{key_at}
use Rattle.spec_board.specs.Texts.{Journal}
use Rattle.spec_exec.specs.Sent.{sent}
use Rattle.spec_input.specs.Mirrors.{Mirror}
use Rattle.spec_netflow.specs.Datagrams.{netflow_file}
use Rattle.spec_run.specs.Journals.{actions_for}
use Rattle.spec_run.specs.Mirrored.{copy_of, mirror_file_name, mirror_file}
use Rattle.spec_run.specs.Outputs.{frames_by, frames_out, port_file_name, port_file}
use Rattle.spec_tools.specs.Classes.{IsFrameKey, done, done_as}
use Rattle.spec_tools.specs.Lines.{Said, Line, IsAsSaid, said_of}
use Rattle.spec_tools.specs.Lines.Said.{Alike, Differ}
use Rattle.board_laws.specs.Entries.{AreOfBytes}
use Rattle.told_laws.specs.Runs.{last_switch, AreByAllEdits, AreCompared, HasNone, IsTreated}
use Rattle.told_laws.proofs.Keys.{is_frame_key, is_held_once}
use Rattle.told_laws.proofs.Decided.{IsWithin, is_within, has_port, decided_within, decided_beyond}

-- a run with these ports and traces, and nothing else
abbrev of_frames : List ℕ → List Capture → Run
of_frames ports traces = record { ports = ports; edits = []; bundles = []; syncs = []; traces = traces; flow_limit = 0; steps = [] }

-- what holds of each that passes a test holds of one of them
all_where : (P : ℕ → Type 0) (port : ℕ) (ports : List ℕ) → All P ports → list_any (λ p. p == port) ports ≡ true → P port
all_where P port [] each there = absurd (cc there)
all_where P port (p ∷ ps) each there = at (p == port) refl there (all_where P port ps (λ k d within. each (suc k) d (omega (arith, within))))
  where
    at : (t : Bool) → (p == port) ≡ t → (t || list_any (λ p. p == port) ps) ≡ true → (list_any (λ p. p == port) ps ≡ true → P port) → P port
    at true e there later = subst P (eqb-true p port e) (each 0 port (omega arith))
    at false e there later = later there

module _ (o n : Run) (lines : List Line) (a b : List Journal) (compared : AreCompared o n lines) (by_o : AreByAllEdits o a) (by_n : AreByAllEdits n b) where
  frames_alike : (port : ℕ) → frames_of o port ≡ frames_of n port
  frames_alike port = ap₂ (λ (ps : List ℕ) (ts : List Capture). frames_of (of_frames ps ts) port) compared.ports compared.traces

  keys_alike : (port place : ℕ) → key_at o port place ≡ key_at n port place
  keys_alike port place = ap₂ (λ (ps : List ℕ) (ts : List Capture). key_at (of_frames ps ts) port place) compared.ports compared.traces

  within_new : (port place : ℕ) → IsWithin o port place → IsWithin n port place
  within_new port place is = (is.0, subst (λ (fs : List Frame). place ≤ length fs) (frames_alike port) is.1)

  -- ---- a frame

  module _ (port place : ℕ) (is : IsWithin o port place) where
    abbrev key : List ℕ
    key = key_at o port place

    listed : list_any (λ p. p == port) o.ports ≡ true
    listed = has_port o.ports o.traces port (let first = is.0 in let last = is.1 in omega (arith, first, last))

    of_port : AreOfBytes o port
    of_port = all_where (AreOfBytes o) port o.ports compared.packets.of_bytes listed

    frame_key : IsFrameKey key
    frame_key = is_frame_key o port of_port place is.0

    old_done : actions_for o a port place ≡ done (last_switch o) key
    old_done = decided_within o a by_o port place is

    new_done : actions_for n b port place ≡ done (last_switch n) key
    new_done = decided_within n b by_n port place (within_new port place is) ∙ ap (done (last_switch n)) (sym (keys_alike port place))

    told : IsAsSaid (last_switch o) (last_switch n) key (said_of lines key)
    told = compared.listed.told key frame_key (is_held_once o port of_port place is.0 compared.packets.of_bytes compared.packets.distinct listed)

    as_said : (said : Said) → IsAsSaid (last_switch o) (last_switch n) key said → IsTreated o.ports key (actions_for o a port place) (actions_for n b port place) said
    as_said Alike same = old_done ∙ same ∙ sym new_done
    as_said (Differ by_old by_new) are = record {
      old_is = old_done ∙ are.old;
      new_is = new_done ∙ are.new ∙ ap (λ (ps : List ℕ). done_as ps by_new key) (sym compared.ports);
      differ = λ same. are.differ (sym old_done ∙ same ∙ new_done);
    }

    pub treated : IsTreated o.ports key (actions_for o a port place) (actions_for n b port place) (said_of lines key)
    treated = as_said (said_of lines key) told

  -- ---- where no difference is told of a frame

  module _ (none : HasNone o lines) where
    pub actions_are : (port place : ℕ) → actions_for o a port place ≡ actions_for n b port place
    actions_are port place = at (is_within o port place)
      where
        at : IsWithin o port place ⊎ (IsWithin o port place → ⊥) → actions_for o a port place ≡ actions_for n b port place
        at (inl is) =
            subst (IsTreated o.ports (key_at o port place) (actions_for o a port place) (actions_for n b port place)) (none port place is.0 is.1) (treated port place is)
        at (inr beyond) =
            decided_beyond o a port place beyond
            ∙ sym (decided_beyond n b port place (λ is. beyond (is.0, subst (λ (fs : List Frame). place ≤ length fs) (sym (frames_alike port)) is.1)))

    -- what is made of ports, traces and decisions alone
    made_alike : {X : Type 0} (made : List ℕ → List Capture → (ℕ → ℕ → List DpAction) → X)
        → made o.ports o.traces (actions_for o a) ≡ made n.ports n.traces (actions_for n b)
    made_alike made =
        ap₂ (λ (ps : List ℕ) (ts : List Capture). made ps ts (actions_for o a)) compared.ports compared.traces
        ∙ ap (made n.ports n.traces) (fun_ext (λ port. fun_ext (actions_are port)))

    pub frames_are : (port : ℕ) → frames_out o a port ≡ frames_out n b port
    frames_are port =
        made_alike (λ ps ts decided.
        flat_map (λ (x : Arrival). frames_by (of_frames ps ts) (decided x.port x.place) port x) (in_order (arrivals (of_frames ps ts))))

    pub port_files_are : (out : List ℕ) (port : ℕ) → port_file out o a port ≡ port_file out n b port
    port_files_are out port =
        made_alike (λ ps ts decided. (
          port_file_name out port,
          file_of (is_nanos (of_frames ps ts))
              (flat_map (λ (x : Arrival). frames_by (of_frames ps ts) (decided x.port x.place) port x) (in_order (arrivals (of_frames ps ts)))),
        ))

    pub mirror_files_are : (out : List ℕ) (number : ℕ) (m : Mirror) → mirror_file out o a number m ≡ mirror_file out n b number m
    mirror_files_are out number m =
        made_alike (λ ps ts decided. (
          mirror_file_name out number,
          file_of (is_nanos (of_frames ps ts))
              (filter_map (λ (x : Arrival). let frame = frame_at (of_frames ps ts) x.port x.place in copy_of m x.port frame (sent (decided x.port x.place) frame.bytes))
              (in_order (arrivals (of_frames ps ts)))),
        ))

    pub flows_are : (out : List ℕ) → netflow_file out o (actions_for o a) ≡ netflow_file out n (actions_for n b)
    flows_are out = made_alike (λ ps ts decided. netflow_file out (of_frames ps ts) decided)
