use Rattle.std.proofs.Common.{◌≡◌, arith, ap, ◌^◌}
use Rattle.std.proofs.lemmas.List.{get_or_read}
use Rattle.reservations.proofs.CountLemmas.{count_read, count_known}
use Rattle.reservations.proofs.places.UsedPlaces.count.Goals as goal

pub returns-in-1 : goal.returns-in-1
returns-in-1 c =
    let counts = c.self.inside.small.items in
    let first = c.args.first in
    let are = rw c.self.view_is at c.self.invariant.0 in
    let size : c.args.size ≡ 1 = omega (arith, c.in-1.is) in
    let within = count_known c.args.self.now 8 counts first (omega arith) are c.requires.known in
    let read = get_or_read counts _ _ within c.index-in-1.ensures 0 in
    count_read c.args.self.now 8 counts first c.args.size _ (omega arith) are (ap (λ k. 8 ^ k) size) c.requires.aligned.1 read

pub returns-in-2 : goal.returns-in-2
returns-in-2 c =
    let counts = c.self.inside.middle.items in
    let first = c.args.first in
    let are = rw c.self.view_is at c.self.invariant.1 in
    let size : c.args.size ≡ 2 = omega (arith, c.in-2.is) in
    let within = count_known c.args.self.now 64 counts first (omega arith) are c.requires.known in
    let read = get_or_read counts _ _ within c.index-in-2.ensures 0 in
    count_read c.args.self.now 64 counts first c.args.size _ (omega arith) are (ap (λ k. 8 ^ k) size) c.requires.aligned.1 read

pub returns-in_default : goal.returns-in_default
returns-in_default c =
    let counts = c.self.inside.large.items in
    let first = c.args.first in
    let are = rw c.self.view_is at c.self.invariant.2 in
    let size : c.args.size ≡ 3 = omega (arith, c.requires.aligned.0) in
    let within = count_known c.args.self.now 512 counts first (omega arith) are c.requires.known in
    let read = get_or_read counts _ _ within c.index-in_default.ensures 0 in
    count_read c.args.self.now 512 counts first c.args.size _ (omega arith) are (ap (λ k. 8 ^ k) size) c.requires.aligned.1 read
