-- Which accepted actions of a batch a version has.
use Rattle.std.proofs.Common.{◌≡◌, true, refl, List, [], ◌∷◌, ◌++◌}
use Rattle.std.specs.List.{list_all, AllByRecursion}
use Rattle.std.proofs.lemmas.Bool.{and_parts, and_from}
use Rattle.std.proofs.lemmas.List.Elements.{All-from_recursion, recursion_from_All}
use Rattle.alm_types.specs.declared.action.Action.{Action}
use Rattle.alm_types.specs.declared.entry.Entry.{Entry}
use Rattle.alm_types.specs.declared.verdict.Verdict.{Verdict}
use Rattle.alm_types.specs.declared.verdict.Verdict.TheVariants.{Accepted, Refused}
use Rattle.alm_model.specs.Judging.{accepted_of, when_accepted}
use Rattle.alm_codec.specs.declared.version.Version.{Version}
use Rattle.alm_codec.specs.declared.version.Version.TheVariants.{V02, V03}
use Rattle.alm_codec.specs.Versions.{IsBorne, AreBorne}
use Rattle.alm_codec.proofs.Full.{full_bears}
use Rattle.alm_keeper.specs.Batch.{bears_verdict, bears_entry}

with_first : (version : Version) (v : Verdict) (rest : List Action) → bears_verdict version v ≡ true → AllByRecursion (IsBorne version) rest → AllByRecursion (IsBorne version) (when_accepted v ++ rest)
with_first version (Accepted a) rest h all = (h, all)
with_first version (Refused why n) rest h all = all

each_borne : (version : Version) (entries : List Entry) → list_all (bears_entry version) entries ≡ true → AllByRecursion (IsBorne version) (accepted_of entries)
each_borne version [] h = tt
each_borne version (e ∷ entries) h =
    let parts = and_parts (bears_entry version e) (list_all (bears_entry version) entries) h in
    with_first version e.verdict (accepted_of entries) parts.0 (each_borne version entries parts.1)

pub all_borne : (version : Version) (entries : List Entry) → list_all (bears_entry version) entries ≡ true → AreBorne version (accepted_of entries)
all_borne version entries h = All-from_recursion (IsBorne version) (accepted_of entries) (each_borne version entries h)

first_of : (version : Version) (v : Verdict) (rest : List Action) → AllByRecursion (IsBorne version) (when_accepted v ++ rest) → (bears_verdict version v ≡ true) × AllByRecursion (IsBorne version) rest
first_of version (Accepted a) rest all = (all.0, all.1)
first_of version (Refused why n) rest all = (refl, all)

borne_each : (version : Version) (entries : List Entry) → AllByRecursion (IsBorne version) (accepted_of entries) → list_all (bears_entry version) entries ≡ true
borne_each version [] all = refl
borne_each version (e ∷ entries) all =
    let parts = first_of version e.verdict (accepted_of entries) all in
    and_from (bears_entry version e) (list_all (bears_entry version) entries) parts.0 (borne_each version entries parts.1)

pub borne_all : (version : Version) (entries : List Entry) → AreBorne version (accepted_of entries) → list_all (bears_entry version) entries ≡ true
borne_all version entries all = borne_each version entries (recursion_from_All (IsBorne version) (accepted_of entries) all)

-- versions 02 and 03 have all actions
pub second_bears : (actions : List Action) → AreBorne V02 actions
second_bears actions = full_bears V02 actions refl

pub third_bears : (actions : List Action) → AreBorne V03 actions
third_bears actions = full_bears V03 actions refl
