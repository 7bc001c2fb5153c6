use Rattle.std.proofs.Common.{◌∙◌, sym, ap}
use Rattle.std.specs.Prelude.{slice_get, unwrap_or}
use Rattle.image_tool.specs.Image.{bytes_of}
use Rattle.boot_monitor.proofs.Leads.{got-or}
use Rattle.boot_monitor.specs.Errands.{byte_of, lead}
use Rattle.boot_monitor.proofs.flash_bytes.byte_sent.Goals as goal

pub returns-in-Lead : goal.returns-in-Lead
returns-in-Lead c = c.unwrap_or.ensures ∙ ap (λ b. unwrap_or b 0) c.lead_at.ensures ∙ got-or (lead c.in-Lead.frame c.in-Lead.errand) c.in-Lead.place
    ∙ ap byte_of (sym c.in-Lead.is)

pub returns-in-WordByte : goal.returns-in-WordByte
returns-in-WordByte c = c.unwrap_or-in-WordByte.ensures ∙ ap (λ b. unwrap_or b 0) c.at.ensures
    ∙ ap (λ xs. unwrap_or (slice_get xs c.in-WordByte.place) 0) c.bytes.ensures ∙ got-or (bytes_of c.in-WordByte.word) c.in-WordByte.place
    ∙ ap byte_of (sym c.in-WordByte.is)
