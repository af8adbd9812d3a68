use Rattle.std.proofs.Common.{◌≡◌, ◌-◌, ◌∙◌, ap, arith, filter, length}
use Rattle.std.specs.Prelude.{slice_get}
use Rattle.std.specs.List.{range_with_len}
use Rattle.alm_model.specs.Lists.{is_one, stands_in, moments_in}
use Rattle.alm_model.specs.Measured.{is_measured, measure_of}
use Rattle.alm_model.proofs.Numbered.{filter-both}
use Rattle.alm_model.proofs.alarms_by_number.AlarmsByNumber.new.Goals as goal

pub returns : goal.returns
returns c =
    let all : length c.args.rows.now - 0 ≡ length c.args.rows.now = omega arith in
    ap (λ n. filter (is_measured c.args.list c.args.now c.args.attrs.now c.args.rows.now c.args.moments.now) (range_with_len 0 n)) all
    ∙ filter-both (is_one (stands_in c.args.list) c.args.attrs.now c.args.rows.now) (λ i. measure_of c.args.list c.args.now (moments_in (slice_get c.args.moments.now i))) (range_with_len 0 (length c.args.rows.now))
