use Rattle.std.proofs.Common.{◌≡◌, length, ap, ◌∙◌, arith}
use Rattle.std.proofs.lemmas.List.{with_items_is}
use Rattle.alm_keeper.proofs.store_format.new_half.Goals as goal

pub returns : goal.returns
returns c =
    let half = c.in_ok-half.half in
    let all : length c.put_first_half.new.out ≡ half.len = omega (arith, c.put_first_half.ensures.long, ap length c.deref_mut.ensures.value, half.ok.0) in
    record { text = with_items_is half c.put_first_half.new.out all ∙ c.put_first_half.ensures.text }
