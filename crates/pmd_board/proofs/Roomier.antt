-- A board with more room, and else as it was.
use Rattle.std.proofs.Common.{◌≡◌, ℕ, ◌≤◌, List, vec_len, vec_capacity, sym, ap, ap₂, ◌∙◌, subst, arith}
use Rattle.std.specs.Global.{Vec}
use Rattle.spec_case.specs.Run.{Run}
use Rattle.spec_board.specs.State.{State}
use Rattle.board_laws.specs.Entries.{HasKeys}
use Rattle.board_steps.specs.declared.step.Step as rust
use Rattle.board_steps.specs.StepViews.{steps_view}
use Rattle.port_caches.specs.Steps.{IsSame}
use Rattle.port_caches.specs.Views.{Caches}
use Rattle.pmd_board.specs.declared.board.Board.TheInside.{Inside}
use Rattle.pmd_board.specs.BoardView.{BoardView, IsLawful, state_of}
use Rattle.pmd_board.specs.Fields.{view_of, IsKept}
use Rattle.pmd_board.proofs.Caches.{roomier}

-- a journal with more room
pub record IsRoomier (before after : Vec rust.Step) : Type 0 where
  pub items : after.items ≡ before.items
  pub len : vec_len after ≡ vec_len before
  pub capacity : vec_capacity before ≤ vec_capacity after

pub view_roomier : {X : Type 0} (b : Inside X) (journal : Vec rust.Step) (d : Caches) → journal.items ≡ b.journal.items → IsSame b.caches d
    → view_of (record b { journal = journal; caches = d }) ≡ view_of b
view_roomier b journal d items same =
    let view : ℕ → List rust.Step → BoardView = λ l j. record { port = b.port; flow_limit = l; journal = steps_view j } in
    ap₂ view (ap (λ (x : Caches). x.limit) same.0) items

pub kept_roomier : {X : Type 0} (run : Run) (b : Inside X) (journal : Vec rust.Step) (d : Caches) → IsKept run b → IsRoomier b.journal journal
    → IsSame b.caches d → IsKept run (record b { journal = journal; caches = d })
kept_roomier run b journal d k more same =
    let view = view_roomier b journal d more.items same in
    let limit : d.limit ≡ b.caches.limit = ap (λ (x : Caches). x.limit) same.0 in
    let lists : d.lists ≡ b.caches.lists = ap (λ (x : Caches). x.lists) same.0 in
    let made : d.made ≡ b.caches.made = ap (λ (x : Caches). x.made) same.0 in
    let state = ap (state_of run) view in
    record {
      has_port = k.has_port;
      bundled = k.bundled;
      in_order = k.in_order;
      legal = rw (limit, more.items) k.legal;
      has_keys = subst (λ (s : State). HasKeys run b.port s.next) (sym state) k.has_keys;
      lawful = subst (IsLawful run) (sym view) k.lawful;
      versions = rw state (record { block = k.versions.block; newest = k.versions.newest; floor = k.versions.floor; done = k.versions.done; is_sweeping = k.versions.is_sweeping });
      places = rw state (record {
        next = k.places.next;
        clock = k.places.clock;
        pending = k.places.pending;
        views = rw lists k.places.views;
        named = rw lists k.places.named;
      });
      caches = rw state (record {
        caches = roomier b.caches d (state_of run (view_of b)) same k.caches.caches;
        listed = k.caches.listed;
        rules = ap (λ (x : Caches). x.rules) same.0 ∙ k.caches.rules;
        made = rw made k.caches.made;
      });
      bounds = k.bounds;
      room = record {
        few_places = k.room.few_places;
        few_blocks = k.room.few_blocks;
        few_entries = rw limit k.room.few_entries;
        few_listed = rw limit k.room.few_listed;
        places = k.room.places;
        short = k.room.short;
        steps = omega (arith, more.len, more.capacity, k.room.steps);
        lists = (let l = same.1 in omega (arith, l, k.room.lists));
      };
    }
