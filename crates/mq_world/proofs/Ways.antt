-- Ways through worlds, on which days may be forgotten or not.
use Rattle.mq_world.proofs.Words.{Book, List, [], ℕ}
use Rattle.mq_world.specs.World.{Site, World, Reaches, AtOnce, Later}
use Rattle.mq_world.specs.Forgetting.{ReachesForgetting, Steps}
use Rattle.mq_world.specs.Together.{Together, ReachesTogether}
use Rattle.mq_world.specs.Together as servers

-- a world of one server
abbrev pub alone : World → Together
alone w = record { world = w; standby = [] }

-- steps after steps
pub joined : {site : Site} {w v z : World} → Reaches site w v → Reaches site v z → Reaches site w z
joined r AtOnce = r
joined r (Later y last q n) = Later y last (joined r q) n

-- by steps alone, after such a way
pub with_steps : (site : Site) (F : ℕ) (start v w : World) → ReachesForgetting site start F v → Reaches site v w → ReachesForgetting site start F w
with_steps site F start v w way AtOnce = way
with_steps site F start v w way (Later y last r n) = Steps y last (with_steps site F start v y way r) n

-- the same of several servers
pub with_steps_together : (site : Site) (F : ℕ) (start : Together) (bs : List Book) (v w : World) → ReachesTogether site start F (record { world = v; standby = bs }) → Reaches site v w → ReachesTogether site start F (record { world = w; standby = bs })
with_steps_together site F start bs v w way AtOnce = way
with_steps_together site F start bs v w way (Later y last r n) = servers.Steps (record { world = y; standby = bs }) last (with_steps_together site F start bs v y way r) n
