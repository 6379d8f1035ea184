-- A walk along datagrams, from the front of the bytes to their end.
use Rattle.std.proofs.Common.{◌≡◌, ℕ, zero, suc, ◌+◌, ◌*◌, ◌<◌, ◌≤◌, List, [], ◌++◌, length, length-append, Option, Some, None, refl, sym, ap, ◌∙◌, append_assoc, arith}
use Rattle.std.specs.Prelude.{Result, Ok, Err}
use Rattle.std.proofs.lemmas.Bool.{le-leb, lt-leb}
use Rattle.std.proofs.lemmas.Bool.Decides.{nat_tests}
use Rattle.std.proofs.lemmas.List.{append-nil}
use Rattle.std.proofs.lemmas.List.FromFn.{length-map-range_with_len}
use Rattle.spec_netflow.specs.declared.flow_record.FlowRecord.{FlowRecord}
use Rattle.spec_netflow.specs.declared.fault.NetflowFault.{NetflowFault}
use Rattle.spec_netflow.specs.Datagrams.{header_size, record_size, preceded, count_at, record_at, datagram_fault, datagram_end, records_at, flows_from, flows_in}
use Rattle.netflow_v5.specs.Reading.{IsReadTo}

-- the flows of a walk, or the fault that ended it
abbrev Walked : Type 0
Walked = Result (List FlowRecord) NetflowFault

none_before : (walked : Walked) → preceded [] None walked ≡ walked
none_before (Ok flows) = refl
none_before (Err fault) = refl

more_before : (flows more : List FlowRecord) (walked : Walked) → preceded flows None (preceded more None walked) ≡ preceded (flows ++ more) None walked
more_before flows more (Ok rest) = ap (λ (all : List FlowRecord). let is : Walked = Ok all in is) (sym (append_assoc flows more rest))
more_before flows more (Err fault) = refl

module _ (bytes : List ℕ) where
  -- ---- one step

  at_end : (most at before : ℕ) → length bytes ≤ at → flows_from most bytes at before ≡ Ok []
  unfolding flows_from
  at_end zero at before end = refl
  at_end (suc most) at before end = rw (le-leb (length bytes) at end) refl

  one_step : (most at before : ℕ) → at < length bytes → flows_from (suc most) bytes at before
      ≡ preceded (records_at bytes at) (datagram_fault bytes at before) (flows_from most bytes (datagram_end bytes at) (before + count_at bytes at))
  unfolding flows_from
  one_step most at before more = rw (lt-leb (length bytes) at more) refl

  -- a datagram without a fault lies in the bytes
  pub whole : (at before : ℕ) → datagram_fault bytes at before ≡ None → datagram_end bytes at ≤ length bytes
  unfolding datagram_fault
  whole at before none = grind (arith, nat_tests)

  -- ---- steps of a loop

  pub begun : IsReadTo bytes [] 0
  unfolding flows_in
  begun = record { within = omega arith; most = length bytes; enough = omega arith; so_far = none_before (flows_from (length bytes) bytes 0 0) }

  module _ (flows : List FlowRecord) (at : ℕ) (read : IsReadTo bytes flows at) where
    pub faulty : (fault : NetflowFault) → at < length bytes → datagram_fault bytes at (length flows) ≡ Some fault → flows_in bytes ≡ Err fault
    faulty fault more is = by read.most read.enough read.so_far
      where
        by : (most : ℕ) → length bytes ≤ at + most → preceded flows None (flows_from most bytes at (length flows)) ≡ flows_in bytes → flows_in bytes ≡ Err fault
        by zero enough so_far = absurd (omega arith)
        by (suc most) enough so_far =
            sym so_far ∙ ap (preceded flows None) (one_step most at (length flows) more
            ∙ ap (λ (o : Option NetflowFault). preceded (records_at bytes at) o (flows_from most bytes (datagram_end bytes at) (length flows + count_at bytes at))) is)

    pub read_on : at < length bytes → datagram_fault bytes at (length flows) ≡ None → IsReadTo bytes (flows ++ records_at bytes at) (datagram_end bytes at)
    read_on more none = by read.most read.enough read.so_far
      where
        longer : length (flows ++ records_at bytes at) ≡ length flows + count_at bytes at
        longer =
            length-append flows (records_at bytes at)
            ∙ ap (λ (n : ℕ). length flows + n) (length-map-range_with_len (λ index. record_at bytes (at + header_size + index * record_size)) 0 (count_at bytes at))

        by : (most : ℕ) → length bytes ≤ at + most → preceded flows None (flows_from most bytes at (length flows)) ≡ flows_in bytes
            → IsReadTo bytes (flows ++ records_at bytes at) (datagram_end bytes at)
        by zero enough so_far = absurd (omega arith)
        by (suc most) enough so_far = record {
          within = whole at (length flows) none;
          most = most;
          enough = omega (arith, enough);
          so_far =
              rw longer (sym (more_before flows (records_at bytes at) (flows_from most bytes (datagram_end bytes at) (length flows + count_at bytes at)))
              ∙ sym (ap (preceded flows None) (one_step most at (length flows) more
              ∙ ap (λ (o : Option NetflowFault). preceded (records_at bytes at) o (flows_from most bytes (datagram_end bytes at) (length flows + count_at bytes at))) none))
              ∙ so_far);
        }

    pub ended : length bytes ≤ at → flows_in bytes ≡ Ok flows
    ended end =
        sym read.so_far ∙ ap (preceded flows None) (at_end read.most at (length flows) end)
        ∙ ap (λ (all : List FlowRecord). let is : Walked = Ok all in is) (append-nil flows)
