use Rattle.std.proofs.Common.{◌∙◌, ap, codes, sym}
use Rattle.clap.specs.Words.{first_of, found_of, rows_of}
use Rattle.clap.proofs.WalkLemmas.{first_value-rows}
use Rattle.alm_program.specs.Orders.{conns_in, patience_in}
use Rattle.alm_program.proofs.Found.{not_patient, not_placed, not_scrubbed, not_served, placed, read, served, unread}
use Rattle.alm_program.proofs.Parsed.{no_job}
use Rattle.alm_program.proofs.words.serve_of.Goals as goal

pub returns-in_err-endpoints_of-clause-asked : goal.returns-in_err-endpoints_of-clause-asked
returns-in_err-endpoints_of-clause-asked c =
    let found = found_of c.args.matches.now in
    let digits = first_of (codes "conns") (rows_of found) in
    let seconds = first_of (codes "patience") (rows_of found) in
    let between = first_of (codes "scrub") (rows_of found) in
    let port = c.get_str.ensures ∙ first_value-rows found (codes "port") in
    let folder = c.get_str-2.ensures ∙ first_value-rows found (codes "sockets") in
    let none = placed _ _ _ _ _ port folder c.in_err-endpoints_of.ensures.read.1 in
    no_job _ _ (not_placed _ digits seconds between _ _ c.in_ok-word.ensures none) c.from_residual-in_err-endpoints_of.ensures.0

pub returns-in_err-conns_of-clause-asked : goal.returns-in_err-conns_of-clause-asked
returns-in_err-conns_of-clause-asked c =
    let found = found_of c.args.matches.now in
    let digits = first_of (codes "conns") (rows_of found) in
    let seconds = first_of (codes "patience") (rows_of found) in
    let between = first_of (codes "scrub") (rows_of found) in
    let port = c.get_str.ensures ∙ first_value-rows found (codes "port") in
    let folder = c.get_str-2.ensures ∙ first_value-rows found (codes "sockets") in
    let text = c.get_str-3.ensures ∙ first_value-rows found (codes "conns") in
    let at = placed _ _ _ _ _ port folder c.in_ok-endpoints_of.ensures.read in
    let none = ap conns_in (sym text) ∙ (unread _ _ c.in_err-conns_of.ensures).1 in
    no_job _ _ (not_served _ digits seconds between _ _ _ c.in_ok-word.ensures at none) c.from_residual-in_err-conns_of.ensures.0

pub returns-in_err-patience_of-clause-asked : goal.returns-in_err-patience_of-clause-asked
returns-in_err-patience_of-clause-asked c =
    let found = found_of c.args.matches.now in
    let digits = first_of (codes "conns") (rows_of found) in
    let seconds = first_of (codes "patience") (rows_of found) in
    let between = first_of (codes "scrub") (rows_of found) in
    let port = c.get_str.ensures ∙ first_value-rows found (codes "port") in
    let folder = c.get_str-2.ensures ∙ first_value-rows found (codes "sockets") in
    let text = c.get_str-3.ensures ∙ first_value-rows found (codes "conns") in
    let span = c.get_str-4.ensures ∙ first_value-rows found (codes "patience") in
    let at = placed _ _ _ _ _ port folder c.in_ok-endpoints_of.ensures.read in
    let conns = ap conns_in (sym text) ∙ read _ _ c.in_ok-conns_of.ensures in
    let none = ap patience_in (sym span) ∙ (unread _ _ c.in_err-patience_of.ensures).1 in
    no_job _ _ (not_patient _ digits seconds between _ _ _ _ c.in_ok-word.ensures at conns none) c.from_residual-in_err-patience_of.ensures.0

pub returns-in_err-conns_of-2-clause-asked : goal.returns-in_err-conns_of-2-clause-asked
returns-in_err-conns_of-2-clause-asked c =
    let found = found_of c.args.matches.now in
    let digits = first_of (codes "conns") (rows_of found) in
    let seconds = first_of (codes "patience") (rows_of found) in
    let between = first_of (codes "scrub") (rows_of found) in
    let port = c.get_str.ensures ∙ first_value-rows found (codes "port") in
    let folder = c.get_str-2.ensures ∙ first_value-rows found (codes "sockets") in
    let text = c.get_str-3.ensures ∙ first_value-rows found (codes "conns") in
    let span = c.get_str-4.ensures ∙ first_value-rows found (codes "patience") in
    let pause = c.get_str-5.ensures ∙ first_value-rows found (codes "scrub") in
    let at = placed _ _ _ _ _ port folder c.in_ok-endpoints_of.ensures.read in
    let conns = ap conns_in (sym text) ∙ read _ _ c.in_ok-conns_of.ensures in
    let patience = ap patience_in (sym span) ∙ read _ _ c.in_ok-patience_of.ensures in
    let none = ap conns_in (sym pause) ∙ (unread _ _ c.in_err-conns_of-2.ensures).1 in
    no_job _ _ (not_scrubbed _ digits seconds between _ _ _ _ _ c.in_ok-word.ensures at conns patience none) c.from_residual-in_err-conns_of-2.ensures.0

pub returns-clause-asked : goal.returns-clause-asked
returns-clause-asked c =
    let found = found_of c.args.matches.now in
    let digits = first_of (codes "conns") (rows_of found) in
    let seconds = first_of (codes "patience") (rows_of found) in
    let between = first_of (codes "scrub") (rows_of found) in
    let port = c.get_str.ensures ∙ first_value-rows found (codes "port") in
    let folder = c.get_str-2.ensures ∙ first_value-rows found (codes "sockets") in
    let text = c.get_str-3.ensures ∙ first_value-rows found (codes "conns") in
    let at = placed _ _ _ _ _ port folder c.in_ok-endpoints_of.ensures.read in
    let span = c.get_str-4.ensures ∙ first_value-rows found (codes "patience") in
    let pause = c.get_str-5.ensures ∙ first_value-rows found (codes "scrub") in
    let conns = ap conns_in (sym text) ∙ read _ _ c.in_ok-conns_of.ensures in
    let patience = ap patience_in (sym span) ∙ read _ _ c.in_ok-patience_of.ensures in
    served _ digits seconds between _ _ _ _ _ _ c.in_ok-word.ensures at conns patience (ap conns_in (sym pause) ∙ read _ _ c.in_ok-conns_of-2.ensures)
