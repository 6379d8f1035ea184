-- What goes out of a frame: copies of it, as long as no action has rewritten it, and then what the others send.
use Rattle.std.proofs.Common.{◌≡◌, ℕ, suc, ◌+◌, ◌<◌, Bool, true, false, List, [], ◌∷◌, ◌++◌, length, take, drop, get_or, replicate, refl, sym, ap, ap₂, ◌∙◌, append_assoc, arith}
use Rattle.std.specs.Prelude.{◌==◌, cond, count_by}
use Rattle.std.specs.List.{take_while}
use Rattle.std.proofs.lemmas.Bool.{false≢true}
use Rattle.std.proofs.lemmas.List.{drop_more, take_more, take-append-drop}
use Rattle.std.proofs.lemmas.List.Sums.{sum_by-cons, take_while-cons}
use Rattle.spec_pcap.specs.Pcap.{Frame}
use Rattle.spec_actions.specs.declared.action.DpAction.{DpAction}
use Rattle.spec_actions.specs.declared.action.DpAction.TheVariants.{Output, PopVlan, PushVlan, Set}
use Rattle.spec_exec.specs.Sent.{is_output, sent}
use Rattle.egress_capture.specs.Sending.{sends_to, frame_of, frames_to, next, rewritten}

-- the frame after one more action
rewritten_append : (xs : List DpAction) (a : DpAction) (bytes : List ℕ) → rewritten (xs ++ a ∷ []) bytes ≡ next a (rewritten xs bytes)
unfolding rewritten
rewritten_append [] a bytes = refl
rewritten_append (x ∷ xs) a bytes = rewritten_append xs a (next x bytes)

pub rewritten_take_more : (actions : List DpAction) (i : ℕ) (d : DpAction) (bytes : List ℕ) → i < length actions
    → rewritten (take (i + 1) actions) bytes ≡ next (get_or actions i d) (rewritten (take i actions) bytes)
rewritten_take_more actions i d bytes lt =
    ap (λ (xs : List DpAction). rewritten xs bytes) (take_more actions i d lt) ∙ rewritten_append (take i actions) (get_or actions i d) bytes

module _ (port time : ℕ) where
  -- what goes out at the port
  abbrev out : List DpAction → List ℕ → List Frame
  out actions bytes = frames_to port time actions bytes

  abbrev count : List DpAction → ℕ
  count actions = count_by (sends_to port) actions

  -- how many outputs come first
  abbrev first : List DpAction → ℕ
  first actions = length (take_while is_output actions)

  counted : (a : DpAction) (actions : List DpAction) → count (a ∷ actions) ≡ cond (sends_to port a) 1 0 + count actions
  counted a actions = sum_by-cons (λ x. cond (sends_to port x) 1 0) a actions

  -- ---- one action and those after it

  -- an output sends the frame, if it is to the port
  output_first : (n : ℕ) (actions : List DpAction) (bytes : List ℕ) (test : Bool) → (n == port) ≡ test
      → out (Output n ∷ actions) bytes ≡ cond test (frame_of time bytes ∷ out actions bytes) (out actions bytes)
  unfolding sent
  output_first n actions bytes true is = rw is refl
  output_first n actions bytes false is = rw is refl

  -- an action sends what it sends alone, and those after it what they send of the frame that it leaves
  out_more : (a : DpAction) (actions : List DpAction) (bytes : List ℕ)
      → out (a ∷ actions) bytes ≡ out (a ∷ []) bytes ++ out actions (next a bytes)
  unfolding sent next
  out_more (Output n) actions bytes = by_test (n == port) refl
    where
      by_test : (test : Bool) → (n == port) ≡ test → out (Output n ∷ actions) bytes ≡ out (Output n ∷ []) bytes ++ out actions bytes
      by_test true is = output_first n actions bytes true is ∙ sym (ap (λ (fs : List Frame). fs ++ out actions bytes) (output_first n [] bytes true is))
      by_test false is = output_first n actions bytes false is ∙ sym (ap (λ (fs : List Frame). fs ++ out actions bytes) (output_first n [] bytes false is))
  out_more PopVlan actions bytes = refl
  out_more (PushVlan tpid tci) actions bytes = refl
  out_more (Set f value mask) actions bytes = refl

  -- ---- lists one after the other

  pub out_append : (xs ys : List DpAction) (bytes : List ℕ) → out (xs ++ ys) bytes ≡ out xs bytes ++ out ys (rewritten xs bytes)
  unfolding sent rewritten
  out_append [] ys bytes = refl
  out_append (a ∷ xs) ys bytes =
      out_more a (xs ++ ys) bytes ∙ ap (λ fs. out (a ∷ []) bytes ++ fs) (out_append xs ys (next a bytes))
      ∙ sym (append_assoc (out (a ∷ []) bytes) (out xs (next a bytes)) (out ys (rewritten xs (next a bytes))))
      ∙ ap (λ (fs : List Frame). fs ++ out ys (rewritten xs (next a bytes))) (sym (out_more a xs bytes))

  -- ---- one action

  pub out_sending : (a : DpAction) (bytes : List ℕ) → sends_to port a ≡ true → out (a ∷ []) bytes ≡ frame_of time bytes ∷ []
  unfolding sent
  out_sending (Output n) bytes is = output_first n [] bytes true is
  out_sending PopVlan bytes is = absurd (false≢true is)
  out_sending (PushVlan tpid tci) bytes is = absurd (false≢true is)
  out_sending (Set f value mask) bytes is = absurd (false≢true is)

  pub out_passing : (a : DpAction) (bytes : List ℕ) → sends_to port a ≡ false → out (a ∷ []) bytes ≡ []
  unfolding sent
  out_passing (Output n) bytes is = output_first n [] bytes false is
  out_passing PopVlan bytes is = refl
  out_passing (PushVlan tpid tci) bytes is = refl
  out_passing (Set f value mask) bytes is = refl

  -- ---- the lists that are cut at an action, or where the outputs that come first end

  pub out_within : (actions : List DpAction) (i : ℕ) (d : DpAction) (bytes : List ℕ) → i < length actions
      → out actions bytes ≡ out (take i actions) bytes
      ++ (out (get_or actions i d ∷ []) (rewritten (take i actions) bytes)
      ++ out (drop (i + 1) actions) (next (get_or actions i d) (rewritten (take i actions) bytes)))
  out_within actions i d bytes lt =
      let a = get_or actions i d in
      let cut : actions ≡ take i actions ++ (a ∷ drop (i + 1) actions) = sym (take-append-drop i actions) ∙ ap (λ ys. take i actions ++ ys) (drop_more actions i d lt) in
      ap (λ (xs : List DpAction). out xs bytes) cut ∙ out_append (take i actions) (a ∷ drop (i + 1) actions) bytes
      ∙ ap (λ (fs : List Frame). out (take i actions) bytes ++ fs) (out_more a (drop (i + 1) actions) (rewritten (take i actions) bytes))

  pub out_take_more : (actions : List DpAction) (i : ℕ) (d : DpAction) (bytes : List ℕ) → i < length actions
      → out (take (i + 1) actions) bytes ≡ out (take i actions) bytes ++ out (get_or actions i d ∷ []) (rewritten (take i actions) bytes)
  out_take_more actions i d bytes lt =
      ap (λ (xs : List DpAction). out xs bytes) (take_more actions i d lt) ∙ out_append (take i actions) (get_or actions i d ∷ []) bytes

  -- ---- outputs that come first

  copies_more : (test : Bool) (n : ℕ) (frame : Frame) → cond test (frame ∷ replicate n frame) (replicate n frame) ≡ replicate (cond test 1 0 + n) frame
  copies_more true n frame = let e : 1 + n ≡ suc n = omega arith in rw e refl
  copies_more false n frame = let e : 0 + n ≡ n = omega arith in rw e refl

  -- they send the frame as often as they are to the port
  pub out_first : (actions : List DpAction) (bytes : List ℕ)
      → out (take (first actions) actions) bytes ≡ replicate (count (take (first actions) actions)) (frame_of time bytes)
  unfolding sent
  out_first [] bytes = refl
  out_first (Output n ∷ actions) bytes =
      let xs = take (first actions) actions in
      let frame = frame_of time bytes in
      rw (take_while-cons is_output (Output n) actions)
      (output_first n xs bytes (n == port) refl
      ∙ ap (λ (fs : List Frame). cond (n == port) (frame ∷ fs) fs) (out_first actions bytes)
      ∙ copies_more (n == port) (count xs) frame ∙ ap (λ m. replicate m frame) (sym (counted (Output n) xs)))
  out_first (PopVlan ∷ actions) bytes = refl
  out_first (PushVlan tpid tci ∷ actions) bytes = refl
  out_first (Set f value mask ∷ actions) bytes = refl

  -- and leave it as it is
  pub first_leave : (actions : List DpAction) (bytes : List ℕ) → rewritten (take (first actions) actions) bytes ≡ bytes
  unfolding rewritten next
  first_leave [] bytes = refl
  first_leave (Output n ∷ actions) bytes = rw (take_while-cons is_output (Output n) actions) (first_leave actions bytes)
  first_leave (PopVlan ∷ actions) bytes = refl
  first_leave (PushVlan tpid tci ∷ actions) bytes = refl
  first_leave (Set f value mask ∷ actions) bytes = refl

  -- what they send, and then what the others send of the frame as it is
  pub out_cut : (actions : List DpAction) (bytes : List ℕ)
      → out actions bytes ≡ replicate (count (take (first actions) actions)) (frame_of time bytes) ++ out (drop (first actions) actions) bytes
  out_cut actions bytes =
      let n = first actions in
      ap (λ (xs : List DpAction). out xs bytes) (sym (take-append-drop n actions)) ∙ out_append (take n actions) (drop n actions) bytes
      ∙ ap₂ (λ (fs : List Frame) (now : List ℕ). fs ++ out (drop n actions) now) (out_first actions bytes) (first_leave actions bytes)

  -- ---- actions of which none is an output to the port

  pub out_none : (actions : List DpAction) (bytes : List ℕ) → count actions ≡ 0 → out actions bytes ≡ []
  unfolding sent
  out_none [] bytes none = refl
  out_none (Output n ∷ actions) bytes none = by_test (n == port) refl (out_none actions bytes)
    where
      by_test : (test : Bool) → (n == port) ≡ test → (count actions ≡ 0 → out actions bytes ≡ []) → out (Output n ∷ actions) bytes ≡ []
      by_test true is others = absurd (let more = rw (counted (Output n) actions, is) at none in omega (arith, more))
      by_test false is others =
          let rest = rw (counted (Output n) actions, is) at none in
          output_first n actions bytes false is ∙ others (omega (arith, rest))
  out_none (PopVlan ∷ actions) bytes none = let rest = rw (counted PopVlan actions) at none in out_none actions _ (omega (arith, rest))
  out_none (PushVlan tpid tci ∷ actions) bytes none = let rest = rw (counted (PushVlan tpid tci) actions) at none in out_none actions _ (omega (arith, rest))
  out_none (Set f value mask ∷ actions) bytes none = let rest = rw (counted (Set f value mask) actions) at none in out_none actions _ (omega (arith, rest))
