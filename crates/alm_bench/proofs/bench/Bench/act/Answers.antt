use Rattle.alm_keeper.specs.AsStore.{StandsFor, IsLastEpoch}
use Rattle.std.proofs.Common.{sym, subst}
use Rattle.alm_pipeline.specs.declared.step.Step.{Step}
use Rattle.alm_pipeline.specs.World.{Answers, after_step}
use Rattle.alm_pipeline.specs.Headline.{Moves}
use Rattle.alm_bench.specs.Stands.{MatchesBench, StepsPaced, bench_sight}
use Rattle.alm_bench.proofs.bench.Bench.act.Goals as goal

pub returns-in-Crash-clause-answer : goal.returns-in-Crash-clause-answer
returns-in-Crash-clause-answer g c = λ honest w m. subst (λ (s : Step). Answers w s c.crash.result) (sym c.in-Crash.is) (c.crash.ensures.answer w m)

pub returns-in-Crash-clause-stands : goal.returns-in-Crash-clause-stands
returns-in-Crash-clause-stands g c = λ honest w m. subst (λ (s : Step). MatchesBench (after_step w s c.crash.result) c.crash.new.self) (sym c.in-Crash.is) (c.crash.ensures.stands w m)

pub returns-in-Crash-clause-moves : goal.returns-in-Crash-clause-moves
returns-in-Crash-clause-moves g c = λ honest w m. subst (λ (s : Step). Moves StandsFor IsLastEpoch w s c.crash.result (bench_sight c.args.self.now) (bench_sight c.crash.new.self)) (sym c.in-Crash.is) (c.crash.ensures.moves w m)

pub returns-in-Reopen-clause-answer : goal.returns-in-Reopen-clause-answer
returns-in-Reopen-clause-answer g c = λ honest w m. subst (λ (s : Step). Answers w s c.reopen.result) (sym c.in-Reopen.is) (c.reopen.ensures.answer honest w m)

pub returns-in-Reopen-clause-stands : goal.returns-in-Reopen-clause-stands
returns-in-Reopen-clause-stands g c = λ honest w m. subst (λ (s : Step). MatchesBench (after_step w s c.reopen.result) c.reopen.new.self) (sym c.in-Reopen.is) (c.reopen.ensures.stands honest w m)

pub returns-in-Call-clause-answer : goal.returns-in-Call-clause-answer
returns-in-Call-clause-answer g c = λ honest w m. subst (λ (s : Step). Answers w s c.call.result) (sym c.in-Call.is) (c.call.ensures.answer w m)

pub returns-in-Call-clause-stands : goal.returns-in-Call-clause-stands
returns-in-Call-clause-stands g c = λ honest w m. subst (λ (s : Step). MatchesBench (after_step w s c.call.result) c.call.new.self) (sym c.in-Call.is) (c.call.ensures.stands w m)

pub returns-in-Reopen-clause-moves : goal.returns-in-Reopen-clause-moves
returns-in-Reopen-clause-moves g c = λ honest w m. subst (λ (s : Step). Moves StandsFor IsLastEpoch w s c.reopen.result (bench_sight c.args.self.now) (bench_sight c.reopen.new.self)) (sym c.in-Reopen.is) (c.reopen.ensures.moves honest w m)

pub returns-in-Call-clause-moves : goal.returns-in-Call-clause-moves
returns-in-Call-clause-moves g c = λ honest w m. subst (λ (s : Step). Moves StandsFor IsLastEpoch w s c.call.result (bench_sight c.args.self.now) (bench_sight c.call.new.self)) (sym c.in-Call.is) (c.call.ensures.moves w m)

pub returns-in-Crash-clause-paces : goal.returns-in-Crash-clause-paces
returns-in-Crash-clause-paces g c = λ honest w more m e. subst (λ (s : Step). StepsPaced w s c.crash.result more c.crash.new.self) (sym c.in-Crash.is) (c.crash.ensures.paces w more m e)

pub returns-in-Reopen-clause-paces : goal.returns-in-Reopen-clause-paces
returns-in-Reopen-clause-paces g c = λ honest w more m e. subst (λ (s : Step). StepsPaced w s c.reopen.result more c.reopen.new.self) (sym c.in-Reopen.is) (c.reopen.ensures.paces honest w more m e)

pub returns-in-Call-clause-paces : goal.returns-in-Call-clause-paces
returns-in-Call-clause-paces g c = λ honest w more m e. subst (λ (s : Step). StepsPaced w s c.call.result more c.call.new.self) (sym c.in-Call.is) (c.call.ensures.paces w more m e)
