use Rattle.std.proofs.Common.{◌≡◌, inl, inr, false, List, ℕ, ap, ◌∙◌, subst, refl}
use Rattle.alm_disk.specs.Settled.{IsSettled}
use Rattle.alm_checkpoint.specs.Layouts.{is_header_open}
use Rattle.alm_checkpoint.specs.Layouts.{layout_byte}
use Rattle.alm_keeper.specs.Formatting.{with_empty_half, with_open_gate}
use Rattle.alm_keeper.proofs.Formed.{ok_map, err_of, may_be}
use Rattle.std.proofs.Common.{◌++◌}
use Rattle.alm_keeper.specs.Formatting.{IsShut, IsGateClosed, IsWithGateOpen, IsWritten}
use Rattle.alm_keeper.specs.Moments.{FormatMoment, Never, close_calls, behind_calls, open_calls}
use Rattle.alm_keeper.proofs.Moments.{goes_on, goes_by, more_left, some_by, some_after, moment_by, err_map}
use Rattle.alm_keeper.proofs.formatting.write_all.Goals as goal

pub returns-in_err-write_behind-clause-leaves : goal.returns-in_err-write_behind-clause-leaves
returns-in_err-write_behind-clause-leaves g c = λ honest sound.
    let now = c.close_header.ensures.honest.0 honest in
    err_of c.from_residual-in_err-write_behind.result (inr (λ b image. inl (c.write_behind.ensures.unformatted now (c.in_ok-close_header.ensures.shut honest sound) b (inl image))))

pub returns-clause-settled : goal.returns-clause-settled
returns-clause-settled g c = λ honest.
    let one = g.D.Disk.state c.close_header.new.disk in
    let now = c.close_header.ensures.honest.0 honest in
    let all = with_empty_half c.args.layout.now c.args.header.now c.args.half.now one.bytes in
    let settled = c.in_ok-write_behind.ensures.filled now (c.in_ok-close_header.ensures.settled honest).sound in
    let new = g.D.Disk.state c.open_header.new.disk in
    ok_map c.open_header.result (λ (s : IsSettled new (with_open_gate all)). record { reads = refl; nothing_pending = s.nothing_pending; sound = s.sound }) (c.open_header.ensures.opened all (c.write_behind.ensures.honest.0 now) settled)

pub returns-clause-written : goal.returns-clause-written
returns-clause-written g c = λ honest.
    let one = g.D.Disk.state c.close_header.new.disk in
    let now = c.close_header.ensures.honest.0 honest in
    let all = with_empty_half c.args.layout.now c.args.header.now c.args.half.now one.bytes in
    let settled = c.in_ok-write_behind.ensures.filled now (c.in_ok-close_header.ensures.settled honest).sound in
    let new = g.D.Disk.state c.open_header.new.disk in
    let long = g.met.D.Disk.whole c.close_header.new.disk now ∙ c.close_header.ensures.size in
    ok_map c.open_header.result (λ (s : IsSettled new (with_open_gate all)). record { before = one.bytes; long = long; is = s.reads }) (c.open_header.ensures.opened all (c.write_behind.ensures.honest.0 now) settled)

pub returns-clause-leaves : goal.returns-clause-leaves
returns-clause-leaves g c = λ honest sound.
    let one = g.D.Disk.state c.close_header.new.disk in
    let now = c.close_header.ensures.honest.0 honest in
    let next = c.write_behind.ensures.honest.0 now in
    let l = c.args.layout.now in
    let all = with_empty_half l c.args.header.now c.args.half.now one.bytes in
    let settled = c.in_ok-write_behind.ensures.filled now (c.in_ok-close_header.ensures.settled honest).sound in
    let shut = c.in_ok-write_behind.ensures.shut now (c.in_ok-close_header.ensures.shut honest sound) in
    let closed : is_header_open (layout_byte all 0) ≡ false = subst (λ (b : List ℕ). is_header_open (layout_byte b 0) ≡ false) settled.reads shut.closed in
    let long = g.met.D.Disk.whole c.close_header.new.disk now ∙ c.close_header.ensures.size in
    err_of c.open_header.result (inr (λ b image. may_be (g.D.Disk.size c.args.disk.now) l c.args.header.now c.args.half.now one.bytes b long (c.open_header.ensures.either all b next settled closed image)))

pub returns-in_err-close_header-clause-fails : goal.returns-in_err-close_header-clause-fails
returns-in_err-close_header-clause-fails g c =
    let d0 = c.args.disk.now in
    let d1 = c.close_header.new.disk in
    let l = c.args.layout.now in
    let P = g.D.Disk.honest d0 × ((g.D.Disk.state d0).faulted ≡ false) in
    let W = IsWritten (g.D.Disk.size d0) l c.args.header.now c.args.half.now in
    let S = FormatMoment g.D.Disk.serves g.D.Disk.state P W in
    let closing = moment_by g.D.Disk.serves g.D.Disk.state P (Unit {0}) Never W (λ p. tt) (λ p b never. absurd never) in
    err_of c.from_residual.result (more_left S d0 d1 close_calls (behind_calls l ++ open_calls) (some_by (FormatMoment g.D.Disk.serves g.D.Disk.state (Unit {0}) Never) S closing d0 d1 close_calls c.in_err-close_header.ensures.fails))

pub returns-in_err-write_behind-clause-fails : goal.returns-in_err-write_behind-clause-fails
returns-in_err-write_behind-clause-fails g c =
    let d0 = c.args.disk.now in
    let d1 = c.close_header.new.disk in
    let d2 = c.write_behind.new.disk in
    let l = c.args.layout.now in
    let P = g.D.Disk.honest d0 × ((g.D.Disk.state d0).faulted ≡ false) in
    let W = IsWritten (g.D.Disk.size d0) l c.args.header.now c.args.half.now in
    let S = FormatMoment g.D.Disk.serves g.D.Disk.state P W in
    let closing = moment_by g.D.Disk.serves g.D.Disk.state P (Unit {0}) Never W (λ p. tt) (λ p b never. absurd never) in
    let Q = g.D.Disk.honest d1 × IsShut (g.D.Disk.state d1) in
    let to_q : P → Q = λ p. (c.close_header.ensures.honest.0 p.0, c.in_ok-close_header.ensures.shut p.0 p.1) in
    let hidden = moment_by g.D.Disk.serves g.D.Disk.state P Q Never W to_q (λ p b never. absurd never) in
    let first = goes_by (FormatMoment g.D.Disk.serves g.D.Disk.state (Unit {0}) Never) S closing d0 d1 close_calls c.in_ok-close_header.ensures.goes in
    err_of c.from_residual-in_err-write_behind.result (some_after S d0 d1 d2 close_calls (behind_calls l ++ open_calls) first (more_left S d1 d2 (behind_calls l) open_calls (some_by (FormatMoment g.D.Disk.serves g.D.Disk.state Q Never) S hidden d1 d2 (behind_calls l) c.in_err-write_behind.ensures.fails)))

pub returns-clause-goes : goal.returns-clause-goes
returns-clause-goes g c =
    let d0 = c.args.disk.now in
    let d1 = c.close_header.new.disk in
    let d2 = c.write_behind.new.disk in
    let d3 = c.open_header.new.disk in
    let l = c.args.layout.now in
    let P = g.D.Disk.honest d0 × ((g.D.Disk.state d0).faulted ≡ false) in
    let W = IsWritten (g.D.Disk.size d0) l c.args.header.now c.args.half.now in
    let S = FormatMoment g.D.Disk.serves g.D.Disk.state P W in
    let closing = moment_by g.D.Disk.serves g.D.Disk.state P (Unit {0}) Never W (λ p. tt) (λ p b never. absurd never) in
    let Q = g.D.Disk.honest d1 × IsShut (g.D.Disk.state d1) in
    let to_q : P → Q = λ p. (c.close_header.ensures.honest.0 p.0, c.in_ok-close_header.ensures.shut p.0 p.1) in
    let hidden = moment_by g.D.Disk.serves g.D.Disk.state P Q Never W to_q (λ p b never. absurd never) in
    let first = goes_by (FormatMoment g.D.Disk.serves g.D.Disk.state (Unit {0}) Never) S closing d0 d1 close_calls c.in_ok-close_header.ensures.goes in
    let second = goes_by (FormatMoment g.D.Disk.serves g.D.Disk.state Q Never) S hidden d1 d2 (behind_calls l) c.in_ok-write_behind.ensures.goes in
    let R = g.D.Disk.honest d2 × IsGateClosed (g.D.Disk.state d2) in
    let settled = λ (p : P). c.in_ok-write_behind.ensures.filled (to_q p).0 (c.in_ok-close_header.ensures.settled p.0).sound in
    let to_r : P → R = λ p. (c.write_behind.ensures.honest.0 (to_q p).0, (record { reads = refl; nothing_pending = (settled p).nothing_pending; sound = (settled p).sound }, (c.in_ok-write_behind.ensures.shut (to_q p).0 (to_q p).1).closed)) in
    let opening = moment_by g.D.Disk.serves g.D.Disk.state P R (IsWithGateOpen (g.D.Disk.state d2)) W to_r (λ p b is. record { before = (g.D.Disk.state d1).bytes; long = g.met.D.Disk.whole d1 (to_q p).0 ∙ c.close_header.ensures.size; is = is ∙ ap with_open_gate (settled p).reads }) in
    let O = FormatMoment g.D.Disk.serves g.D.Disk.state R (IsWithGateOpen (g.D.Disk.state d2)) in
    ok_map c.open_header.result (λ more. goes_on S d0 d1 d3 close_calls (behind_calls l ++ open_calls) first (goes_on S d1 d2 d3 (behind_calls l) open_calls second (goes_by O S opening d2 d3 open_calls more))) c.open_header.ensures.goes

pub returns-clause-fails : goal.returns-clause-fails
returns-clause-fails g c =
    let d0 = c.args.disk.now in
    let d1 = c.close_header.new.disk in
    let d2 = c.write_behind.new.disk in
    let d3 = c.open_header.new.disk in
    let l = c.args.layout.now in
    let P = g.D.Disk.honest d0 × ((g.D.Disk.state d0).faulted ≡ false) in
    let W = IsWritten (g.D.Disk.size d0) l c.args.header.now c.args.half.now in
    let S = FormatMoment g.D.Disk.serves g.D.Disk.state P W in
    let closing = moment_by g.D.Disk.serves g.D.Disk.state P (Unit {0}) Never W (λ p. tt) (λ p b never. absurd never) in
    let Q = g.D.Disk.honest d1 × IsShut (g.D.Disk.state d1) in
    let to_q : P → Q = λ p. (c.close_header.ensures.honest.0 p.0, c.in_ok-close_header.ensures.shut p.0 p.1) in
    let hidden = moment_by g.D.Disk.serves g.D.Disk.state P Q Never W to_q (λ p b never. absurd never) in
    let first = goes_by (FormatMoment g.D.Disk.serves g.D.Disk.state (Unit {0}) Never) S closing d0 d1 close_calls c.in_ok-close_header.ensures.goes in
    let second = goes_by (FormatMoment g.D.Disk.serves g.D.Disk.state Q Never) S hidden d1 d2 (behind_calls l) c.in_ok-write_behind.ensures.goes in
    let R = g.D.Disk.honest d2 × IsGateClosed (g.D.Disk.state d2) in
    let settled = λ (p : P). c.in_ok-write_behind.ensures.filled (to_q p).0 (c.in_ok-close_header.ensures.settled p.0).sound in
    let to_r : P → R = λ p. (c.write_behind.ensures.honest.0 (to_q p).0, (record { reads = refl; nothing_pending = (settled p).nothing_pending; sound = (settled p).sound }, (c.in_ok-write_behind.ensures.shut (to_q p).0 (to_q p).1).closed)) in
    let opening = moment_by g.D.Disk.serves g.D.Disk.state P R (IsWithGateOpen (g.D.Disk.state d2)) W to_r (λ p b is. record { before = (g.D.Disk.state d1).bytes; long = g.met.D.Disk.whole d1 (to_q p).0 ∙ c.close_header.ensures.size; is = is ∙ ap with_open_gate (settled p).reads }) in
    let O = FormatMoment g.D.Disk.serves g.D.Disk.state R (IsWithGateOpen (g.D.Disk.state d2)) in
    err_map c.open_header.result (λ more. some_after S d0 d1 d3 close_calls (behind_calls l ++ open_calls) first (some_after S d1 d2 d3 (behind_calls l) open_calls second (some_by O S opening d2 d3 open_calls more))) c.open_header.ensures.fails
