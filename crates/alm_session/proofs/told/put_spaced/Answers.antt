use Rattle.std.proofs.Common.{◌≡◌, ◌≤◌, ◌<◌, ◌+◌, ◌∷◌, ◌∙◌, length, take, ap, arith, rules, length-append}
use Rattle.std.specs.Prelude.{vec_len, vec_capacity, get_or, decimal}
use Rattle.std.proofs.lemmas.List.Folds.{length-flat_map-take}
use Rattle.alm_lines.specs.Reply.{with_spaces}
use Rattle.alm_lines.proofs.Prefixes.{on_err}
use Rattle.alm_session.proofs.told.put_spaced.Goals as goal

pub returns-in_err-extend_from_slice-clause-full : goal.returns-in_err-extend_from_slice-clause-full
returns-in_err-extend_from_slice-clause-full c =
    let prefix = length-flat_map-take (λ i. 32 ∷ decimal i) c.args.numbers.now c.loop-number.number-index 0 (search rules) in
    let len : length c.loop-number.text.items ≡ length c.args.text.now.items + length (with_spaces (take c.loop-number.number-index c.args.numbers.now)) = ap length c.loop-number.invariant.0 ∙ length-append c.args.text.now.items _ in
    let full : vec_capacity c.loop-number.text < vec_len c.loop-number.text + 1 = search rules in
    let all : vec_capacity c.args.text.now < vec_len c.args.text.now + length (with_spaces c.args.numbers.now) = omega (arith, prefix, len, full, c.loop-number.text.ok, c.args.text.now.ok, c.loop-number.invariant.1) in
    on_err _ all

pub returns-in_err-put_number-clause-full : goal.returns-in_err-put_number-clause-full
returns-in_err-put_number-clause-full c =
    let prefix = length-flat_map-take (λ i. 32 ∷ decimal i) c.args.numbers.now c.loop-number.number-index 0 (search rules) in
    let len : length c.loop-number.text.items ≡ length c.args.text.now.items + length (with_spaces (take c.loop-number.number-index c.args.numbers.now)) = ap length c.loop-number.invariant.0 ∙ length-append c.args.text.now.items _ in
    let full : vec_capacity c.extend_from_slice.new.self < vec_len c.extend_from_slice.new.self + length (decimal (get_or c.args.numbers.now c.loop-number.number-index 0)) = search rules in
    let room : vec_capacity c.loop-number.text ≤ vec_capacity c.extend_from_slice.new.self = search rules in
    let one : vec_len c.extend_from_slice.new.self ≡ vec_len c.loop-number.text + 1 = search rules in
    let all : vec_capacity c.args.text.now < vec_len c.args.text.now + length (with_spaces c.args.numbers.now) = omega (arith, prefix, len, full, room, one, c.loop-number.text.ok, c.args.text.now.ok, c.loop-number.invariant.1) in
    on_err _ all
