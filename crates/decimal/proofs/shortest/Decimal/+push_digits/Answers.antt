-- All digits but the last stand behind the text, and leave room for it.
use Prim.Native.Nat.{◌/◌, ◌≤◌}
use native.Mathlib.Omega.{arith}
use lib.ListN.{length-append}
use Rattle.decimal.specs.Shortest.{digits}
use Rattle.decimal.proofs.Texts.{digits_behind, room_behind}
use Rattle.decimal.proofs.shortest.Decimal.+push_digits.Goals as goal

pub push_digits-requires : goal.push_digits-requires
push_digits-requires t c =
    let n = c.args.size in
    let s = c.args.self.now in
    let big : 10 ≤ n = omega arith in
    (omega arith, omega (arith, room_behind s n big c.requires, length-append s (digits (n / 10))))

pub push-requires-2 : goal.push-requires-2
push-requires-2 t c =
    let n = c.args.size in
    let big : 10 ≤ n = omega arith in
    rw c.push_digits.ensures (room_behind c.args.self.now n big c.requires)

pub returns : goal.returns
returns t c =
    let n = c.args.size in
    let big : 10 ≤ n = omega arith in
    rw (c.push-2.ensures, c.push_digits.ensures) (digits_behind c.args.self.now n big)
