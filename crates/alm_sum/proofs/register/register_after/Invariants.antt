use Rattle.std.proofs.Common.{◌≡◌, take, length}
use Rattle.alm_sum.specs.Crc.{register_after_bytes}
use Rattle.alm_sum.proofs.register.register_after.Given as goal

abbrev pub invariant-loop-eight : goal.invariant-loop-eight
invariant-loop-eight l = register_after_bytes l.register l.left ≡ register_after_bytes l.fn.register l.fn.bytes

abbrev pub decreases-loop-eight : goal.decreases-loop-eight
decreases-loop-eight l = length l.left

abbrev pub invariant-loop-byte : goal.invariant-loop-byte
invariant-loop-byte l = l.register ≡ register_after_bytes l.initial.register (take l.byte-index l.byte-items)
