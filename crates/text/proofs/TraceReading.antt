-- One event joins a trace, or there is no room for it.
use Rattle.std.proofs.Common.{◌≡◌, ℕ, ◌+◌, ◌<◌, ◌≤◌, List, [], ◌∷◌, ◌++◌, length, refl, ◌∙◌, arith}
use mathlib.Core.Option.{some, none}
use Rattle.basics.specs.Count.{count}
use Rattle.basics.proofs.Lists.{count_yes, count_no}
use Rattle.text.specs.Trace.{is_request, is_response}
use Rattle.text.specs.Steps.{event_adds, Counted}
use Rattle.text.specs.declared.trace.Event.{Event}
use Rattle.text.specs.declared.trace.Event.TheVariants.{Request, Response}
use Rattle.text.proofs.ReadLines.{within-yes, within-no}
use Rattle.text.proofs.Ranges.{events-length}

module _ {es : List Event} {m n : ℕ} (h : Counted es m n) where
  pub counted-room : m + n < 128 → length es < 128
  counted-room g = omega (arith, events-length es, h.asks, h.answers)

  module _ (rid prog a b : ℕ) where
    abbrev request : Event
    request = Request rid prog a b

    pub request-full : 64 ≤ m → event_adds request es ≡ none
    request-full g = within-no (count is_request es) 64 _ (omega (arith, h.asks))

    pub request-joins : m < 64 → event_adds request es ≡ some (es ++ request ∷ [])
    request-joins g = within-yes (count is_request es) 64 _ (omega (arith, h.asks))

    pub request-counted : m < 64 → Counted (es ++ request ∷ []) (m + 1) n
    request-counted g =
        record {
          asks = omega (arith, count_yes is_request es request refl, h.asks);
          answers = count_no is_response es request refl ∙ h.answers;
          few_requests = omega arith;
          few_responses = h.few_responses;
        }

  module _ (rid status value : ℕ) where
    abbrev response : Event
    response = Response rid status value

    pub response-full : 64 ≤ n → event_adds response es ≡ none
    response-full g = within-no (count is_response es) 64 _ (omega (arith, h.answers))

    pub response-joins : n < 64 → event_adds response es ≡ some (es ++ response ∷ [])
    response-joins g = within-yes (count is_response es) 64 _ (omega (arith, h.answers))

    pub response-counted : n < 64 → Counted (es ++ response ∷ []) m (n + 1)
    response-counted g =
        record {
          asks = count_no is_request es response refl ∙ h.asks;
          answers = omega (arith, count_yes is_response es response refl, h.answers);
          few_requests = h.few_requests;
          few_responses = omega arith;
        }
