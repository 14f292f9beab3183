-- `tokens_in` is `tokens_of`: the words up to a comment.
use Rattle.std.proofs.Common.{[], ap, ◌∙◌}
use Rattle.wording.specs.Token.{words_from, first_tokens, tokens_of}
use Rattle.wording.proofs.token.tokens_in.Goals as goal

pub returns : goal.returns
unfolding tokens_of
returns c = c.words_in.ensures ∙ ap (λ l. first_tokens (words_from [] l)) c.comment_at.ensures.before
