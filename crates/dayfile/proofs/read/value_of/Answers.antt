use Rattle.std.proofs.Common.{◌≡◌, ℕ, ◌+◌, ◌-◌, ◌*◌, ◌^◌, ◌<◌, map, length, Some, Bor, refl, sym, ap, ◌∙◌, arith, rules}
use Rattle.std.proofs.lemmas.Fn.{fold_same}
use Rattle.std.proofs.lemmas.Iterator.{YieldsList-from_slice}
use Rattle.std.proofs.lemmas.Iterator.Consumers.{YieldsList-so_far, YieldsList-turn}
use Rattle.std.proofs.lemmas.List.{get_or_default}
use Rattle.dayfile.specs.Reading.{value_on}
use Rattle.dayfile.proofs.Digits.{fits_more, value_push}
use Rattle.dayfile.proofs.read.value_of.Goals as goal

pub fold-requires-clause-callable : goal.fold-requires-clause-callable
fold-requires-clause-callable c = record {
  at = λ xs t q x u yields calls step.
      let turn = YieldsList-turn (YieldsList-from_slice c.args.digits.now (cc)) xs t yields (Some x) u x refl step in
      let read = YieldsList-so_far (YieldsList-from_slice c.args.digits.now (cc)) xs t yields in
      let value : q.1 ≡ value_on 0 (map (λ (y : Bor ℕ). y.now) xs) = fold_same _ (λ ys v. v ≡ value_on 0 (map (λ (y : Bor ℕ). y.now) ys)) _ (λ ys a y b f' was call. (let more : b ≡ a * 10 + (y.now - 48) = search rules in more ∙ ap (λ v. v * 10 + (y.now - 48)) was ∙ sym (value_push ys y), search rules)) xs 0 q.1 q.0 refl calls in
      let low : x.now < 256 = omega (arith, turn.1, get_or_default c.args.digits.now (length xs) x.now 0 turn.0, (c.type_inv.digits (length xs)).fits) in
      let fits : q.1 * 10 + (x.now - 48) < 2 ^ 32 = omega (arith, fits_more (length xs) x.now c.args.digits.now (λ i. omega (arith, (c.type_inv.digits i).fits)) turn.0 c.requires low, value, ap (value_on 0) read) in
      search rules;
}
