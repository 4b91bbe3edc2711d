use Rattle.std.proofs.Common.{◌∙◌, ap, sym}
use Rattle.vp_wire.specs.Dialogue.{error_line}
use Rattle.vp_wire.specs.Reading.{text_of}
use Rattle.vp_wire.proofs.ErrorRows.{bad_json, bad_request, line_too_long, no_memory, not_open}
use Rattle.vp_wire.proofs.line.LineError.line.Goals as goal

pub returns-in-TooLong : goal.returns-in-TooLong
returns-in-TooLong c = sym line_too_long ∙ ap (λ e. error_line (text_of e)) (sym c.in-TooLong.is)

pub returns-in-BadJson : goal.returns-in-BadJson
returns-in-BadJson c = sym bad_json ∙ ap (λ e. error_line (text_of e)) (sym c.in-BadJson.is)

pub returns-in-BadRequest : goal.returns-in-BadRequest
returns-in-BadRequest c = sym bad_request ∙ ap (λ e. error_line (text_of e)) (sym c.in-BadRequest.is)

pub returns-in-NotOpen : goal.returns-in-NotOpen
returns-in-NotOpen c = sym not_open ∙ ap (λ e. error_line (text_of e)) (sym c.in-NotOpen.is)

pub returns-in-NoMemory : goal.returns-in-NoMemory
returns-in-NoMemory c = sym no_memory ∙ ap (λ e. error_line (text_of e)) (sym c.in-NoMemory.is)
