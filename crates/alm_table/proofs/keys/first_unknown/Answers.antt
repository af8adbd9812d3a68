use Rattle.std.proofs.Common.{◌≡◌, ◌∙◌, ap, sym, false, Some, string_bytes}
use Rattle.alm_table.specs.TableFile.{is_key}
use Rattle.alm_table.proofs.keys.first_unknown.Goals as goal

pub returns-then-not-is_key : goal.returns-then-not-is_key
returns-then-not-is_key c =
    let unknown : is_key c.args.alarm (string_bytes c.in-Some.key.now) ≡ false = rw (← c.as_str.ensures.value) (sym c.is_key.ensures ∙ c.if-not-is_key.true) in
    rw (← c.loop-key.invariant.2, c.in-Some.ensures.steps, unknown) (ap Some c.as_str-then-not-is_key.ensures.value)
