-- What single actions do.
use Rattle.std.proofs.Common.{◌≡◌, ℕ, Bool, true, false, ◌==◌, ◌&&◌, ◌||◌, not, if◌then◌else◌, List, [], ◌∷◌, map, Some, None, refl, sym, ap, ◌∙◌, eq-eqb, ne_eqb, inl, inr}
use Rattle.std.specs.List.{find, list_any}
use Rattle.std.proofs.lemmas.Bool.{cases_eq}
use Rattle.spec_actions.specs.declared.named_field.NamedField.{NamedField}
use Rattle.spec_actions.specs.declared.action.DpAction.TheVariants as datapath
use Rattle.spec_actions.specs.Named.{named}
use Rattle.spec_xlate.specs.Needs.{is_met}
use Rattle.spec_xlate.specs.Translation.{Switch, State, with_current, emit_all, emit, committed, in_port_of, is_other_port, output, output_all, in_field, written, written_bits, write}

-- ---- outputs

-- the port of a number is found where one of the ports has it
port_found : (n : ℕ) (ports : List ℕ) → find (λ p. p == n) ports ≡ (if list_any (λ p. n == p) ports then Some n else None)
port_found n [] = refl
port_found n (p ∷ ports) =
    elim (cases_eq p n) [
      | inl same ↦
          ap (λ (t : Bool). if t then Some p else find (λ q. q == n) ports) (eq-eqb p n same)
          ∙ ap Some same ∙ sym (ap (λ (t : Bool). if t then Some n else None) (here (n == p) (eq-eqb n p (sym same))))
      | inr other ↦
          ap (λ (t : Bool). if t then Some p else find (λ q. q == n) ports) (ne_eqb p n other)
          ∙ port_found n ports ∙ sym (ap (λ (t : Bool). if t then Some n else None) (elsewhere (n == p) (ne_eqb n p (λ e. other (sym e)))))
    ]
  where
    here : (t : Bool) → t ≡ true → (t || list_any (λ q. n == q) ports) ≡ true
    here true e = refl
    here false e = absurd (cc e)

    elsewhere : (t : Bool) → t ≡ false → (t || list_any (λ q. n == q) ports) ≡ list_any (λ q. n == q) ports
    elsewhere true e = absurd (cc e)
    elsewhere false e = refl

-- it isn't the one by which the packet came in
pub other_found : (sw : Switch) (key : List ℕ) (n : ℕ) → (n ≡ in_port_of key → ⊥) → find (λ p. p == n) sw.ports ≡ (if is_other_port sw key n then Some n else None)
other_found sw key n other =
    port_found n sw.ports ∙ ap (λ (t : Bool). if t then Some n else None) (with_test (list_any (λ p. n == p) sw.ports) (n == in_port_of key) (ne_eqb n (in_port_of key) other))
  where
    with_test : (t u : Bool) → u ≡ false → t ≡ (t && not u)
    with_test true true e = absurd (cc e)
    with_test true false e = refl
    with_test false u e = refl

pub in_port_left_out : (sw : Switch) (key : List ℕ) (n : ℕ) → n ≡ in_port_of key → None ≡ (if is_other_port sw key n then Some n else None)
in_port_left_out sw key n same = sym (ap (λ (t : Bool). if t then Some n else None) (without (list_any (λ p. n == p) sw.ports) (n == in_port_of key) (eq-eqb n (in_port_of key) same)))
  where
    without : (t u : Bool) → u ≡ true → (t && not u) ≡ false
    without true true e = refl
    without true false e = absurd (cc e)
    without false u e = refl

pub output-sent : (sw : Switch) (n port : ℕ) (s t : State) → Some port ≡ (if is_other_port sw s.current n then Some n else None)
    → t ≡ emit_all (map datapath.Output (port ∷ [])) (committed s) → t ≡ output sw n s
unfolding output emit_all
output-sent sw n port s t found sent = by_test (is_other_port sw s.current n) found
  where
    by_test : (u : Bool) → Some port ≡ (if u then Some n else None) → t ≡ (if u then emit (datapath.Output n) (committed s) else s)
    by_test true is = sent ∙ ap (λ (p : ℕ). emit (datapath.Output p) (committed s)) (cc is)
    by_test false is = absurd (cc is)

pub output-none : (sw : Switch) (n : ℕ) (s : State) → None ≡ (if is_other_port sw s.current n then Some n else None) → s ≡ output sw n s
unfolding output
output-none sw n s none = by_test (is_other_port sw s.current n) none
  where
    by_test : (u : Bool) → None ≡ (if u then Some n else None) → s ≡ (if u then emit (datapath.Output n) (committed s) else s)
    by_test true is = absurd (cc is)
    by_test false is = refl

pub output_all-sent : (ports : List ℕ) (s t : State) → (ports ≡ [] → ⊥) → t ≡ emit_all (map datapath.Output ports) (committed s) → t ≡ output_all ports s
unfolding output_all
output_all-sent [] s t some sent = absurd (some refl)
output_all-sent (p ∷ ports) s t some sent = sent

pub output_all-none : (ports : List ℕ) (s : State) → ports ≡ [] → s ≡ output_all ports s
unfolding output_all
output_all-none ports s none = sym (ap (λ (ps : List ℕ). output_all ps s) none)

-- ---- writes

pub write-unmet : (n : NamedField) (value bits : ℕ) (s : State) → is_met (named n).write_needs s.current ≡ false → s ≡ write n value bits s
unfolding write
write-unmet n value bits s unmet =
    sym (ap (λ (t : Bool). if t then with_current (written (named n).field (in_field n value) (written_bits n bits) s.current) s else s) unmet)

pub write-met : (n : NamedField) (value bits : ℕ) (s : State) (key : List ℕ) → is_met (named n).write_needs s.current ≡ true
    → key ≡ written (named n).field (in_field n value) (written_bits n bits) s.current → with_current key s ≡ write n value bits s
unfolding write
write-met n value bits s key met wrote =
    ap (λ (k : List ℕ). with_current k s) wrote
    ∙ sym (ap (λ (t : Bool). if t then with_current (written (named n).field (in_field n value) (written_bits n bits) s.current) s else s) met)
