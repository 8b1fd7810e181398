use Rattle.followed_space.proofs.RegionCalls.{follows_discarded}
use Rattle.followed_space.proofs.space.FollowedSpace.serve.Goals as goal

pub returns-in-Map-clause-follows : goal.returns-in-Map-clause-follows
returns-in-Map-clause-follows c = λ st e serves next. c.map.ensures.follows st e c.in-Map.space (rw c.in-Map.is at serves) next

pub returns-in-Grow-clause-follows : goal.returns-in-Grow-clause-follows
returns-in-Grow-clause-follows c = λ st e serves next. c.grow.ensures.follows st e c.in-Grow.space (rw c.in-Grow.is at serves) next

pub returns-in-Unmap-clause-follows : goal.returns-in-Unmap-clause-follows
returns-in-Unmap-clause-follows c = λ st e serves next. c.unmap.ensures.follows st e c.in-Unmap.space (rw c.in-Unmap.is at serves) next

pub returns-in-Protect-clause-follows : goal.returns-in-Protect-clause-follows
returns-in-Protect-clause-follows c = λ st e serves next. c.protect.ensures.follows st e c.in-Protect.space
    (rw c.in-Protect.is at serves) next

pub returns-in-Store-clause-follows : goal.returns-in-Store-clause-follows
returns-in-Store-clause-follows c = λ st e serves next. c.store.ensures.follows st e c.in-Store.space c.in-Store.word
    (rw c.in-Store.is at serves) next

pub returns-in-Sync-clause-follows : goal.returns-in-Sync-clause-follows
returns-in-Sync-clause-follows c = λ st e serves next. c.sync.ensures.follows st e c.in-Sync.space (rw c.in-Sync.is at serves) next

pub returns-in-Evict-clause-follows : goal.returns-in-Evict-clause-follows
returns-in-Evict-clause-follows c = λ st e serves next. c.evict.ensures.follows st e c.in-Evict.space (rw c.in-Evict.is at serves) next

pub returns-in-Discard-clause-follows : goal.returns-in-Discard-clause-follows
returns-in-Discard-clause-follows c = λ st e serves next. follows_discarded c.args.self.now c.in-Discard.space c.in-Discard.page
    c.in-Discard.length st e (rw c.in-Discard.is at serves) next

pub returns-in-Wire-clause-follows : goal.returns-in-Wire-clause-follows
returns-in-Wire-clause-follows c = λ st e serves next. c.wire.ensures.follows st e c.in-Wire.space (rw c.in-Wire.is at serves) next

pub returns-in-Unwire-clause-follows : goal.returns-in-Unwire-clause-follows
returns-in-Unwire-clause-follows c = λ st e serves next. c.unwire.ensures.follows st e c.in-Unwire.space
    (rw c.in-Unwire.is at serves) next
