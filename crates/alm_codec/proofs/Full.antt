-- A version with all actions has each.
use Rattle.std.proofs.Common.{◌≡◌, true, refl, List, [], ◌∷◌}
use Rattle.std.specs.List.{AllByRecursion}
use Rattle.std.proofs.lemmas.List.Elements.{All-from_recursion}
use Rattle.alm_types.specs.declared.action.Action.{Action}
use Rattle.alm_codec.specs.declared.version.Version.{Version}
use Rattle.alm_codec.specs.declared.version.Version.TheVariants.{V01, V02, V03}
use Rattle.alm_codec.specs.Versions.{bears, IsBorne, AreBorne, is_full, newer}

bears_one : (version : Version) (a : Action) → is_full version ≡ true → bears version a ≡ true
bears_one V01 a full = absurd cc
bears_one V02 a full = refl
bears_one V03 a full = refl

bears_each : (version : Version) (actions : List Action) → is_full version ≡ true → AllByRecursion (IsBorne version) actions
bears_each version [] full = tt
bears_each version (a ∷ actions) full = (bears_one version a full, bears_each version actions full)

pub full_bears : (version : Version) (actions : List Action) → is_full version ≡ true → AreBorne version actions
full_bears version actions full = All-from_recursion (IsBorne version) actions (bears_each version actions full)

-- a checkpoint writes one with all actions
pub newer_full : (version : Version) → is_full (newer version) ≡ true
newer_full V01 = refl
newer_full V02 = refl
newer_full V03 = refl

pub newer_bears : (version : Version) (actions : List Action) → AreBorne (newer version) actions
newer_bears version actions = full_bears (newer version) actions (newer_full version)
