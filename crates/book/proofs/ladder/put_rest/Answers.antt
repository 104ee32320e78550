use Rattle.std.proofs.Common.{◌++◌, suc, length, take, drop, set, sym, ap, ◌∙◌}
use Rattle.std.proofs.lemmas.List.{take_at, length-set, set_split}
use Rattle.std.specs.Option.{option_to_list}
use Rattle.book.proofs.ladder.put_rest.Goals as goal

pub returns-in-Some : goal.returns-in-Some
returns-in-Some c =
    let held = c.args.orders.now.items in
    let written = set c.as_mut_slice.result.now c.args.place c.in-Some.rest in
    take_at written (drop (length written) held) (length held) (length-set _ _ _ ∙ ap length c.as_mut_slice.ensures.value)
    ∙ ap (λ l. set l c.args.place c.in-Some.rest) c.as_mut_slice.ensures.value
    ∙ set_split held c.args.place c.in-Some.rest c.requires
    ∙ ap (λ o. take c.args.place held ++ (option_to_list o ++ drop (suc c.args.place) held)) (sym c.in-Some.is)
