-- How a list of actions grows by steps.
use Rattle.std.specs.Prelude.{◌≡◌, ◌+◌, ◌-◌, ◌==◌, cond, List, drop, length, flat_map}
use Rattle.alm_types.specs.declared.logged_action.LoggedAction.{LoggedAction}

-- the actions of a history, each entry of which holds those that were added together
abbrev pub joined_actions : List (List LoggedAction) → List LoggedAction
joined_actions entries = flat_map (λ actions. actions) entries

-- the last of the list are these actions
abbrev pub HasLast : List LoggedAction → List LoggedAction → Type 0
HasLast list actions = drop (length list - length actions) list ≡ actions

-- the next list if it is longer by exactly these actions, else the list as it is
abbrev pub next_if_longer : List LoggedAction → List LoggedAction → List LoggedAction → List LoggedAction
next_if_longer xs actions next = cond (length next == length xs + length actions) next xs
