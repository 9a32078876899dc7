-- What an event in the code reports, by the bytes of its parts.
use Rattle.std.specs.Option.{option_map}
use Rattle.mq_track.specs.Events.{Event, Passed, Began, Ended, Left, Nothing}
use Rattle.mq_track.specs.declared.event.Event.{Event as CodeEvent}
use Rattle.mq_track.specs.declared.event.Event.TheVariants as code

-- the event, with session, login and message id as bytes
abbrev pub told : CodeEvent → Event
told (code.Passed session login) = Passed session.now login.now
told (code.Began session message moment) = Began session.now message.now moment
told (code.Ended session message end) = Ended session.now (option_map (λ m. m.now) message) end
told (code.Left session) = Left session.now
told code.Nothing = Nothing
