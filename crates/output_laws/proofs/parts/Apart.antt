-- Where no block of a run has both edits and frames, none of its parts' has; and frames get the same translation there.
use Rattle.std.proofs.Common.{◌≡◌, ℕ, zero, suc, ◌+◌, ◌<◌, ◌≤◌, ◌⊎◌, length, refl, sym, ap, ◌∙◌, subst, arith, inl, inr}
use Rattle.std.proofs.lemmas.Bool.{cases_lt}
use Rattle.spec_pcap.specs.Pcap.{Frame}
use Rattle.spec_frames.specs.Key.{key_of}
use Rattle.spec_xlate.specs.Translation.{Translation}
use Rattle.spec_case.specs.Run.{Run, frames_of, frame_at}
use Rattle.spec_case.specs.Blocks.{lo, hi, block_of}
use Rattle.spec_board.specs.Results.{key_at, translated}
use Rattle.spec_run.specs.Journals.{HasEditsApart}
use Rattle.output_laws.specs.Parts.{syncs_through, before, since}
use Rattle.output_laws.proofs.parts.Frames.{count_before, length-before, length-since, frame_at-before, frame_at-since}
use Rattle.output_laws.proofs.parts.BlocksOfParts.{blocks_before, block_of-before, block_of-since, past_first, hi-since}

-- the translation of a frame under the last version of its block
abbrev pub by_last : Run → ℕ → ℕ → Translation
by_last run port place = translated run (hi run (block_of run port place)) (key_at run port place)

module _ (time : ℕ) (run : Run) where
  abbrev c : ℕ → ℕ
  c port = count_before time run port

  pub apart-before : HasEditsApart run → HasEditsApart (before time run)
  apart-before apart port place first last =
      let within : place ≤ c port = (let count = length-before time run port in omega (arith, last, count)) in
      let same = block_of-before time run port place within in
      let all : place ≤ length (frames_of run port) = (let count = length-since time run port in omega (arith, within, count)) in
      ap (lo run) same ∙ apart port place first all ∙ ap (hi run) (sym same)

  lo-since : (block : ℕ) → lo (since time run) (suc block) ≡ hi run (blocks_before time run + block)
  lo-since block = hi-since time run block

  pub apart-since : HasEditsApart run → HasEditsApart (since time run)
  apart-since apart port place first last =
      by_block (block_of (since time run) port place) refl (cases_lt 0 (syncs_through time run.syncs))
    where
      of_whole : lo run (block_of run port (c port + place)) ≡ hi run (block_of run port (c port + place))
      of_whole = apart port (c port + place) (omega (arith, first)) (let count = length-since time run port in omega (arith, last, count))

      block_is : block_of run port (c port + place) ≡ blocks_before time run + block_of (since time run) port place
      block_is = block_of-since time run port place first

      by_block : (block : ℕ) → block_of (since time run) port place ≡ block → (0 < syncs_through time run.syncs) ⊎ (syncs_through time run.syncs ≤ 0)
          → lo (since time run) block ≡ hi (since time run) block
      by_block zero is (inl some) = absurd (let one = past_first time run port place first some in omega (arith, one, is))
      by_block zero is (inr none) =
          let it : block_of run port (c port + place) ≡ 0 = omega (arith, block_is, is, none) in
          let shift : blocks_before time run + 0 ≡ 0 = omega (arith, none) in
          subst (λ b. lo run b ≡ hi run b) it of_whole ∙ ap (hi run) (sym shift) ∙ sym (hi-since time run 0)
      by_block (suc block) is cases =
          let it : block_of run port (c port + place) ≡ suc (blocks_before time run + block) = omega (arith, block_is, is) in
          let shift : suc (blocks_before time run + block) ≡ blocks_before time run + suc block = omega arith in
          lo-since block ∙ subst (λ b. lo run b ≡ hi run b) it of_whole ∙ ap (hi run) shift ∙ sym (hi-since time run (suc block))

  abbrev at_version : ℕ → Frame → ℕ → Translation
  at_version port frame v = translated run v (key_of port frame.bytes)

  pub by_last-before : (port place : ℕ) → 1 ≤ place → place ≤ c port → by_last (before time run) port place ≡ by_last run port place
  by_last-before port place first last =
      ap (λ f. at_version port f (hi run (block_of (before time run) port place))) (frame_at-before time run port place first last)
      ∙ ap (λ b. at_version port (frame_at run port place) (hi run b)) (block_of-before time run port place last)

  pub by_last-since : (port place : ℕ) → 1 ≤ place → by_last (since time run) port place ≡ by_last run port (c port + place)
  by_last-since port place first =
      ap (λ f. at_version port f (hi (since time run) (block_of (since time run) port place))) (frame_at-since time run port place first)
      ∙ ap (at_version port (frame_at run port (c port + place)))
      (hi-since time run (block_of (since time run) port place) ∙ ap (hi run) (sym (block_of-since time run port place first)))
