-- `drawn`: each way out, by its definition.
use Rattle.std.proofs.Common.{rules}
use Rattle.worksheet.specs.Showing.{drawn_of, drawn_buffer, drawn_check, buffer_check}
use Rattle.maps.specs.Figures.{shown_of, figures_buffer}
use Rattle.worksheet.proofs.showing.drawn.Goals as goal

pub returns-then-out-ne-FIGURES-clause-answer : goal.returns-then-out-ne-FIGURES-clause-answer
unfolding drawn_of drawn_buffer drawn_check buffer_check shown_of figures_buffer
returns-then-out-ne-FIGURES-clause-answer c = search rules

pub returns-then-out-ne-FIGURES-clause-buffer : goal.returns-then-out-ne-FIGURES-clause-buffer
unfolding drawn_of drawn_buffer drawn_check buffer_check shown_of figures_buffer
returns-then-out-ne-FIGURES-clause-buffer c = search rules

pub returns-in_err-count-clause-answer : goal.returns-in_err-count-clause-answer
unfolding drawn_of drawn_buffer drawn_check buffer_check shown_of figures_buffer
returns-in_err-count-clause-answer c = search rules

pub returns-in_err-count-clause-buffer : goal.returns-in_err-count-clause-buffer
unfolding drawn_of drawn_buffer drawn_check buffer_check shown_of figures_buffer
returns-in_err-count-clause-buffer c = search rules

pub returns-clause-answer : goal.returns-clause-answer
unfolding drawn_of drawn_buffer drawn_check buffer_check shown_of figures_buffer
returns-clause-answer c = search rules

pub returns-clause-buffer : goal.returns-clause-buffer
unfolding drawn_of drawn_buffer drawn_check buffer_check shown_of figures_buffer
returns-clause-buffer c = search rules
