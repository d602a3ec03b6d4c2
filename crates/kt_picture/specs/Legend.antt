-- The legend of a picture: of the marks that it has, and of no others.
use Rattle.std.specs.Prelude.{ℕ, ◌+◌, ◌*◌, ◌/◌, ◌%◌, ◌||◌, is_some, filter, Bool, true, false, List, [], ◌∷◌, ◌++◌}
use Rattle.std.specs.List.{list_any}
use Rattle.kt_spacetime.specs.declared.event.Event.{Event}
use Rattle.kt_spacetime.specs.declared.event.Event.TheVariants.{Sent, Received, Dropped, Began, Took, Ready, Unwilling, Decided, Failed, Refused}
use Rattle.kt_picture.specs.declared.legend.Sign.{Sign}
use Rattle.kt_picture.specs.declared.legend.Sign.TheVariants as sign
use Rattle.kt_picture.specs.declared.legend.TheConstants.{SIGNS}
use Rattle.kt_picture.specs.declared.window.Shown.{Shown}
use Rattle.kt_picture.specs.Texts.{line_text}
use Rattle.kt_picture.specs.View.{View}

-- which rows have which marks
abbrev pub is_message : Event → Bool
is_message (Sent p to body) = true
is_message (Received p from msg) = true
is_message _ = false

abbrev pub is_dropped : Event → Bool
is_dropped (Dropped p from msg) = true
is_dropped _ = false

abbrev pub is_began : Event → Bool
is_began (Began p inst kind) = true
is_began _ = false

abbrev pub is_took : Event → Bool
is_took (Took p inst) = true
is_took _ = false

abbrev pub is_ready : Event → Bool
is_ready (Ready p inst) = true
is_ready _ = false

abbrev pub is_decided : Event → Bool
is_decided (Decided p inst commit) = true
is_decided _ = false

abbrev pub is_failed : Event → Bool
is_failed (Failed p) = true
is_failed _ = false

abbrev pub is_refusal : Event → Bool
is_refusal (Unwilling p inst cause) = true
is_refusal (Refused p verb cause) = true
is_refusal _ = false

abbrev pub is_linked : View → Event → Bool
is_linked view (Received p from msg) = is_some (view.link msg)
is_linked view (Dropped p from msg) = is_some (view.link msg)
is_linked view _ = false

abbrev pub row_shows : View → Sign → Shown → Bool
row_shows view sign.Message s = is_message s.event
row_shows view sign.Undone s = s.is_undone || s.is_taken_back
row_shows view sign.Chain s = is_linked view s.event
row_shows view sign.Transit s = s.is_in_transit
row_shows view sign.Dropped s = is_dropped s.event
row_shows view sign.Instance s = is_began s.event || is_some s.stretch.open_in
row_shows view sign.Checkpoint s = is_took s.event
row_shows view sign.Rollback s = is_ready s.event
row_shows view sign.Decision s = is_decided s.event
row_shows view sign.Failure s = is_failed s.event
row_shows view sign.Refusal s = is_refusal s.event
row_shows view sign.Cut s = false
row_shows view sign.Wrong s = false

-- whether a picture has a mark: a cut that is drawn, what is wrong, or the mark of one of its rows
abbrev pub has_sign : View → Sign → Bool
has_sign view sign.Cut = list_any (λ c. c.is_new) view.cuts
has_sign view sign.Wrong = is_some view.breach || is_some view.orphan
has_sign view sign = list_any (row_shows view sign) view.shown

-- the line of a mark at a place of the legend, whose lines come two by two from this height on
abbrev pub sign_at : ℕ → ℕ → Sign → List ℕ
sign_at top place sign = line_text sign (260 * (place % 2)) (top + 18 * (place / 2))

-- so of marks one after another, from a place on
abbrev pub legend_from : ℕ → ℕ → List Sign → List ℕ
legend_from top place [] = []
legend_from top place (sign ∷ rest) = sign_at top place sign ++ legend_from top (place + 1) rest

-- the marks that a picture has, in their order
abbrev pub signs_of : View → List Sign
signs_of view = filter (has_sign view) SIGNS
