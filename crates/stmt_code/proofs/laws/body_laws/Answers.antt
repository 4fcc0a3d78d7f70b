use Rattle.stmt_code.proofs.laws.body_laws.Goals as goal

pub returns-clause-quiet : goal.returns-clause-quiet
returns-clause-quiet c = c.quiet_stays.ensures

pub returns-clause-typed : goal.returns-clause-typed
returns-clause-typed c = c.expressions_are_typed.ensures

pub returns-clause-spared : goal.returns-clause-spared
returns-clause-spared c = c.checks_are_spared.ensures

pub returns-clause-lie : goal.returns-clause-lie
returns-clause-lie c = c.all_values_lie.ensures

pub returns-clause-words : goal.returns-clause-words
returns-clause-words c = c.values_have_words.ensures

pub returns-clause-places : goal.returns-clause-places
returns-clause-places c = c.parts_have_places.ensures

pub returns-clause-kept : goal.returns-clause-kept
returns-clause-kept c = c.agreement_is_kept.ensures

pub returns-clause-calls : goal.returns-clause-calls
returns-clause-calls c = c.calls_are_typed.ensures

pub returns-clause-shaped : goal.returns-clause-shaped
returns-clause-shaped c = c.initial_values_have_shape.ensures

pub returns-clause-stay : goal.returns-clause-stay
returns-clause-stay c = c.shapes_stay.ensures

pub returns-clause-scopes : goal.returns-clause-scopes
returns-clause-scopes c = c.scopes_are_sound.ensures

pub returns-clause-bounded : goal.returns-clause-bounded
returns-clause-bounded c = c.values_are_bounded.ensures

pub returns-clause-visible : goal.returns-clause-visible
returns-clause-visible c = c.visible_values_lie.ensures

pub returns-clause-inside : goal.returns-clause-inside
returns-clause-inside c = c.rows_inside.ensures

pub returns-clause-around : goal.returns-clause-around
returns-clause-around c = c.rows_around.ensures

pub returns-clause-statics : goal.returns-clause-statics
returns-clause-statics c = c.static_is_value.ensures
