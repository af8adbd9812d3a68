-- Lemmas on what a parse of the program's words comes to.
use Rattle.std.proofs.Common.{◌≡◌, ◌∙◌, inl, inr, refl, ap, true, List, [], ◌∷◌, Option, Some, None, Result, Ok, Err, IsErr, IsErrAnd, Box, option_map}
use Rattle.std.specs.Box.{box_value}
use Rattle.clap.specs.Words.{HasKind, IsAmong, Kinds, Row, Text, fault_of, is_simple, is_simple_and_free, kind_of, subcommand_of, subcommand_rows}
use Rattle.clap.specs.declared.error.Error.{Error}
use Rattle.clap.specs.declared.error.kind.ErrorKind.{ErrorKind}
use Rattle.clap.specs.declared.error.kind.ErrorKind.TheVariants as kinds
use Rattle.clap.specs.declared.parser.matches.SubCommand.{SubCommand}
use Rattle.clap.specs.declared.parser.matches.ArgMatches.TheViews.{out-SubCommand}
use Rattle.alm_program.specs.Commands.{commands}
use Rattle.alm_program.specs.WordsFaults.{fault_of_kind}
use Rattle.alm_program.specs.Orders.{IsJobOf, JobOrder, command_in, order_at, unless_faulty}
use Rattle.alm_program.specs.declared.job.Job.{Job}
use Rattle.alm_program.specs.declared.words_fault.WordsFault.{WordsFault}
use Rattle.alm_program.specs.declared.words_fault.WordsFault.TheVariants.{Usage, OutOfMemory}

pub commands-simple : is_simple commands ≡ true
unfolding commands
commands-simple = refl

pub commands-free : is_simple_and_free commands ≡ true
unfolding commands
commands-free = refl

-- words with a fault ask for nothing
among : (k : ErrorKind) (kinds : Kinds) (order : Option JobOrder) → IsAmong k kinds → unless_faulty kinds order ≡ None
among k [] order is_among = absurd is_among
among k (x ∷ xs) order is_among = refl

faulty : (words : List Text) (k : ErrorKind) → IsAmong k (fault_of commands words) → command_in words ≡ None
unfolding command_in
faulty words k is_among = among k _ _ is_among

-- an answer that is no job, if nothing is asked for
pub no_job : (order : Option JobOrder) (r : Result Job WordsFault) → order ≡ None → IsErr r → IsJobOf order r
no_job order (Ok job) e is_err = absurd cc
no_job order (Err Usage) e is_err = e
no_job order (Err OutOfMemory) e is_err = tt

out_of_memory : (order : Option JobOrder) (r : Result Job WordsFault) → IsErrAnd r (λ fault. fault ≡ OutOfMemory) → IsJobOf order r
out_of_memory order (Ok job) memory = absurd memory
out_of_memory order (Err fault) memory = rw memory tt

error : (r : Result Job WordsFault) (kind : ErrorKind) → IsErrAnd r (λ fault. fault ≡ fault_of_kind kind) → kind ≡ kinds.OutOfMemory
    → IsErrAnd r (λ fault. fault ≡ OutOfMemory)
error (Ok job) kind told memory = told
error (Err fault) kind told memory = told ∙ ap fault_of_kind memory

pub refused : (words : List Text) (e : Error) (r : Result Job WordsFault) → IsErr r → IsErrAnd r (λ fault. fault ≡ fault_of_kind (kind_of e))
    → HasKind (fault_of commands words) e → IsJobOf (command_in words) r
refused words e r is_err told (inl memory) = out_of_memory _ r (error r _ told memory)
refused words e r is_err told (inr is_among) = no_job _ r (faulty words _ is_among) is_err

-- words without a fault ask for what the command that they name is asked
pub asked : (words : List Text) (name : Text) (rows : List Row) → fault_of commands words ≡ [] → subcommand_of commands words ≡ Some (name, rows)
    → command_in words ≡ order_at name rows
unfolding command_in
asked words name rows none met = rw (none, met) refl

pub asked_nothing : (words : List Text) → fault_of commands words ≡ [] → subcommand_of commands words ≡ None → command_in words ≡ None
unfolding command_in
asked_nothing words none met = rw (none, met) refl

module _ {Z : Type 0} where
  -- the name and the rows of a command that was met
  pub met : (sub : Option (Box SubCommand Z)) (name : Text) (rows : List Row) → Some name ≡ option_map (λ b. (out-SubCommand (box_value b)).name.now) sub
      → Some rows ≡ option_map (λ p. p.1) (subcommand_rows sub) → subcommand_rows sub ≡ Some (name, rows)
  met None name rows named read = absurd cc
  met (Some b) name rows named read = cc

  pub met_none : (sub : Option (Box SubCommand Z)) → None ≡ option_map (λ b. (out-SubCommand (box_value b)).name.now) sub → subcommand_rows sub ≡ None
  met_none None named = refl
  met_none (Some b) named = absurd cc
