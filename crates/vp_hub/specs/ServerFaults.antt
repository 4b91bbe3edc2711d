-- The numbers of the faults of a server, and what is said of them.
use Rattle.std.specs.Prelude.{ℕ, List, codes}
use Rattle.vp_hub.specs.Faults as hub
use Rattle.vp_hub.specs.declared.error.HubError.{HubError}
use Rattle.vp_hub.specs.declared.error.HubError.TheVariants.{Mismatch, Receipt, World}
use Rattle.vp_hub.specs.declared.server_error.ServerError.{ServerError}
use Rattle.vp_hub.specs.declared.server_error.ServerError.TheVariants.{ListenFailed, NoThread, Hub}

-- the number of a fault (profile)
abbrev pub code_of : ServerError → ℕ
code_of ListenFailed = 1605
code_of NoThread = 1606
code_of (Hub e) = hub.code_of e

-- the words of a hub that can't be closed (profile)
abbrev pub words_of_hub : HubError → List ℕ
words_of_hub Receipt = codes "a reply is not at its place in the log"
words_of_hub Mismatch = codes "the log has more requests than were answered"
words_of_hub (World e) = codes "no memory to compare what was answered with the log"

-- the words of a fault (profile)
abbrev pub words_of : ServerError → List ℕ
words_of ListenFailed = codes "the port can't be listened on"
words_of NoThread = codes "no thread can be started"
words_of (Hub e) = words_of_hub e
