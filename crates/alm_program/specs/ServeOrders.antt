-- What the program is asked of a server.
use Rattle.std.specs.Prelude.{◌≡◌, ℕ, List, Option, Some, None, IsNone, string_bytes}
use Rattle.alm_program.specs.Orders.{JobOrder, desk, export, format, order_in, serve, show, tell, upgrade}
use Rattle.alm_program.specs.OwnedEndpoints.{at_of}
use Rattle.alm_program.specs.declared.serve_order.ServeOrder.{ServeOrder}

-- an order to serve is answered by exactly its device, endpoints, number of connections, patience and time between scrubs, every
-- other order by none
abbrev pub IsOrderOf : JobOrder → Option ServeOrder → Type 0
IsOrderOf (serve device at conns patience scrub) (Some asked) =
    (string_bytes asked.device ≡ device) × (at_of asked.endpoints ≡ at) × (asked.conns ≡ conns) × (asked.patience ≡ patience)
    × (asked.scrub ≡ scrub)
IsOrderOf (serve device at conns patience scrub) None = ⊥
IsOrderOf (tell about) asked = IsNone asked
IsOrderOf (desk device) asked = IsNone asked
IsOrderOf (format device table version) asked = IsNone asked
IsOrderOf (upgrade device version) asked = IsNone asked
IsOrderOf (show device) asked = IsNone asked
IsOrderOf (export device) asked = IsNone asked

-- .. of some words: no contract says which words a process was given
abbrev pub IsAskedInWords : Option ServeOrder → Type 0
IsAskedInWords asked = (words : List (List ℕ)) × (order : JobOrder) × (order_in words ≡ Some order) × IsOrderOf order asked
