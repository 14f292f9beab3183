-- The insurer's page: each statement of specs/AuditPage.antt, from where the work is done. Assumes
-- nothing.
use Rattle.results.specs.AuditPage.{PageShowing, PageRefused, PageFields, PageSetValue, PageOpenedValue, PageDrafts, PageNoDraft, PageNone, PageShorter, PageRoom, PageCalls, PageSameSheet, PageSheet, PageWhole, PageHad, PageRefusedHad}
use Rattle.results.proofs.pages.Fields as Fields
use Rattle.results.proofs.pages.Values as Values
use Rattle.results.proofs.pages.Drafts as Drafts
use Rattle.results.proofs.pages.None as None
use Rattle.results.proofs.pages.Showings as Showings
use Rattle.results.proofs.pages.Shorter as Shorter
use Rattle.results.proofs.pages.Room as Room
use Rattle.results.proofs.pages.Calls as Calls
use Rattle.results.proofs.pages.SameSheet as SameSheet
use Rattle.results.proofs.pages.Sheets as Sheets
use Rattle.results.proofs.pages.Whole as Whole
use Rattle.results.proofs.pages.Had as Had

pub page_showing : PageShowing
page_showing = Showings.page_showing

pub page_refused : PageRefused
page_refused = Showings.page_refused

pub page_fields : PageFields
page_fields = Fields.page_fields

pub page_set_value : PageSetValue
page_set_value a k low high x others e any = Values.page_set_value k low high a x others e any

pub page_opened_value : PageOpenedValue
page_opened_value a k low high e = Values.page_opened_value k low high a e

pub page_drafts : PageDrafts
page_drafts a n front later b split begun = Drafts.page_drafts a front later b split n begun

pub page_no_draft : PageNoDraft
page_no_draft a front later x split none = Drafts.page_no_draft a front later x split none

pub page_none : PageNone
page_none = None.page_none

pub page_shorter : PageShorter
page_shorter = Shorter.page_shorter

pub page_room : PageRoom
page_room = Room.page_room

pub page_calls : PageCalls
page_calls = Calls.page_calls

pub page_same_sheet : PageSameSheet
page_same_sheet = SameSheet.page_same_sheet

pub page_sheet : PageSheet
page_sheet a line s = (Sheets.sheet_page a line s, Sheets.sheet_figures a line s)

pub page_whole : PageWhole
page_whole = Whole.page_whole

pub page_had : PageHad
page_had f2 file good room some = Had.page_had f2 file room some good

pub page_refused_had : PageRefusedHad
page_refused_had f2 file why bad room some = Had.page_refused_had f2 file room some why bad
