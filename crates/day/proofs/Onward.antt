-- A text that is written piece by piece. Assumes nothing.
use Rattle.std.proofs.Common.{◌≡◌, ℕ, List, [], ◌++◌, sym, ap, ◌∙◌, append_assoc, append-nil}

-- what is written and what is left give the whole
pub record Onward (whole text left : List ℕ) : Type 0 where
  pub joined : text ++ left ≡ whole

module _ {whole text left : List ℕ} (sofar : Onward whole text left) where
  pub piece_more : (text' piece exact left' : List ℕ) → text' ≡ text ++ piece → piece ≡ exact → left ≡ exact ++ left' → Onward whole text' left'
  piece_more text' piece exact left' pushed same next =
      record { joined = ap (λ l. l ++ left') (pushed ∙ ap (λ l. text ++ l) same) ∙ append_assoc text exact left' ∙ ap (λ l. text ++ l) (sym next) ∙ sofar.joined }

  pub nothing_left : left ≡ [] → text ≡ whole
  nothing_left none = sym (append-nil text) ∙ ap (λ l. text ++ l) (sym none) ∙ sofar.joined

-- a first text and two pushed behind it
pub three_parts : (a b c text text' text'' piece piece' : List ℕ) → text ≡ a → text' ≡ text ++ piece → piece ≡ b → text'' ≡ text' ++ piece' → piece' ≡ c → text'' ≡ a ++ (b ++ c)
three_parts a b c text text' text'' piece piece' first pushed same pushed' same' =
    pushed' ∙ (λ i. (pushed ∙ (λ j. first j ++ same j)) i ++ same' i) ∙ append_assoc a b c
