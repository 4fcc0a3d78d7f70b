-- Whole texts are read exactly.
use Rattle.lexer.specs.declared.token.TokenKind.TheVariants as kinds
use Rattle.lexer.specs.declared.word.Word.TheVariants as words
use Rattle.lexer.specs.declared.delimiter.Delimiter.TheVariants as marks
use Rattle.ada_tree.specs.declared.program.MainStatement.TheVariants as main_statements
use Rattle.std.proofs.Common.{◌≡◌, ℕ, Bool, true, false, List, [], ◌∷◌, ◌++◌, length, Option, Some, None, Ok, Err, refl, sym, ap, subst, append-nil, ◌∙◌}
use Rattle.lexer.specs.declared.token.Token.{Token}
use Rattle.ada_tree.specs.declared.expression.Identifier.{Identifier}
use Rattle.ada_tree.specs.declared.program.Pragma.{Pragma}
use Rattle.ada_tree.specs.declared.program.UnitClause.{UnitClause}
use Rattle.ada_tree.specs.declared.program.MainStatement.{MainStatement}
use Rattle.ada_tree.specs.ProgramTree.{PackageTree, MainTree, ProgramTree}
use Rattle.ada_tree.specs.Language.{Tokens, nothing, ◌⨾◌, word_at, mark, identifier, optional, each}
use Rattle.ada_tree.specs.ProgramGrammar.{item, body_item, unit_name, unit_clause, package_declaration, package_body, package_part, main_statement, main}
use Rattle.ada_tree.specs.ProgramGrammar.{pragma_clause, program}
use Rattle.parser.specs.declared.refusal.Broken.{Broken}
use Rattle.parser.specs.Reading.{first, is_word, refuse}
use Rattle.parser.specs.MoreReading.{Either, Left, Right, is_identifier}
use Rattle.parser.specs.DeclarationReading.{begins_operation}
use Rattle.parser.specs.ProgramReading.{component_at, item_at, begins_item, protected_item_at, body_item_at, unit_name_at, unit_clause_at}
use Rattle.parser.specs.ProgramReading.{package_declaration_at, package_body_at, package_at, main_statement_of, main_statement_at, begins_main_statement}
use Rattle.parser.specs.ProgramReading.{main_at, pragma_at, begins_package, program_at, end_at, whole_at}
use Rattle.parser.proofs.general.Exact.{Took, Exact, Free, exact_told, ok_is, ok_not_err, refused_here}
use Rattle.parser.proofs.general.Several.{ManyStops, exact_token, exact_skipped, exact_identifier, exact_many, exact_several}
use Rattle.parser.proofs.general.MoreExact.{Any, many_stop, perhaps_stop, PerhapsStops, EitherSpells, at_token, at_past, at_placed, at_name, at_nothing}
use Rattle.parser.proofs.general.MoreExact.{at_both, then_exact, free_then, placed_exact, named_exact, past_exact, ended_by, ended_exact, free_ended}
use Rattle.parser.proofs.general.MoreExact.{mapped_exact, free_mapped, perhaps_exact, either_exact}
use Rattle.parser.proofs.general.Lists.{Shrinking, shrinking}
use Rattle.parser.proofs.declarations.Declarations.{is_stops, AspectStops, aspect_part_exact, aspect_before}
use Rattle.parser.proofs.statements.PlainStatements.{ComponentStops, component_exact, component_ends}
use Rattle.parser.proofs.programs.Types.{semicolon, end_word, component_of_exact}
use Rattle.parser.proofs.programs.Items.{either_free, item_starts, item_exact}
use Rattle.parser.proofs.programs.Bodies.{protected_item_exact, protected_item_begins, body_starts, body_item_exact}

-- ---- packages

pub unit_name_exact : Exact unit_name_at unit_name (λ u. ComponentStops u.second)
unit_name_exact =
    mapped_exact (λ x. record { first = x.0; second = x.1 }) unit_name (λ u. ComponentStops u.second) (named_exact component_exact) (λ x ts g. g)
    (λ y ts g. ((y.first, y.second), g, refl)) (λ x o st. st) (λ x o st. st)

pub unit_clause_exact : Exact unit_clause_at unit_clause Free
unit_clause_exact =
    free_mapped (λ x. record { place = x.0; unit = x.1.0; used = x.1.1 }) unit_clause
    (placed_exact (kinds.Word words.With) refl (then_exact unit_name_exact
    (past_exact semicolon refl
    (past_exact (kinds.Word words.Use) refl
    (ended_exact unit_name_exact (exact_skipped semicolon refl)
    (λ x v r g. at_token (ComponentStops x.second) semicolon (component_ends x.second) v r g))))
    (λ x y v r g st. at_past (ComponentStops x.second) semicolon (component_ends x.second) v r g)))
    (λ x o. tt) (λ x ts g. g) (λ y ts g. ((y.place, (y.unit, y.used)), g, refl))

pub package_declaration_exact : (k : ℕ) → Exact (package_declaration_at k) (package_declaration (Some k)) Free
package_declaration_exact k =
    let items = exact_many begins_item (item_at k) (item (Some k)) Any (item_exact k) (λ x s r g. (item_starts k x s r g).1) (λ o h. tt) refl in
    free_mapped (λ x. record { place = x.0; name = x.1.0; items = x.1.1.0; end_name = x.1.1.1 }) (package_declaration (Some k))
    (placed_exact (kinds.Word words.Package) refl (named_exact (past_exact (kinds.Word words.Is) refl
    (then_exact items (past_exact end_word refl (free_ended exact_identifier (exact_skipped semicolon refl)))
    (λ x y v r g st. at_past (ManyStops begins_item Any x) end_word (λ s e. many_stop begins_item Any _ refl tt x) v r g)))))
    (λ x o. tt) (λ x ts g. g) (λ y ts g. ((y.place, (y.name, (y.items, y.end_name))), g, refl))

pub package_body_exact : (k : ℕ) → Exact (package_body_at k) (package_body (Some k)) Free
package_body_exact k =
    let items = exact_many begins_item (body_item_at k) (body_item (Some k)) Any (body_item_exact k) (λ x s r g. (body_starts k x s r g).1) (λ o h. tt) refl in
    free_mapped (λ x. record { place = x.0; name = x.1.0; items = x.1.1.0; end_name = x.1.1.1 }) (package_body (Some k))
    (placed_exact (kinds.Word words.Package) refl (past_exact (kinds.Word words.Body) refl (named_exact (past_exact (kinds.Word words.Is) refl
    (then_exact items (past_exact end_word refl (free_ended exact_identifier (exact_skipped semicolon refl)))
    (λ x y v r g st. at_past (ManyStops begins_item Any x) end_word (λ s e. many_stop begins_item Any _ refl tt x) v r g))))))
    (λ x o. tt) (λ x ts g. g) (λ y ts g. ((y.place, (y.name, (y.items, y.end_name))), g, refl))

abbrev pub is_with : Option Token → Bool
is_with = is_word words.With

pub package_exact : (k : ℕ) → Exact (package_at k) (package_part (Some k)) Free
package_exact k =
    let clauses =
    exact_many is_with _ unit_clause Any unit_clause_exact
    (λ x s r g. at_placed (λ o. is_with o ≡ true) (kinds.Word words.With) x.place (λ _ _. refl) s r g) (λ o h. tt) refl in
    let with_end = past_exact (kinds.Word words.With) refl (free_ended exact_identifier (exact_skipped semicolon refl)) in
    free_mapped (λ x. record { clauses = x.0; declaration = x.1.0; body = x.1.1.0; with_name = x.1.1.1 }) (package_part (Some k))
    (then_exact clauses (free_then (package_declaration_exact k) (free_then (package_body_exact k) with_end))
    (λ x y v r g st. at_both (ManyStops is_with Any x) (package_declaration (Some k) y.0) _ v r g
    (λ s t h i. at_placed (ManyStops is_with Any x) (kinds.Word words.Package) y.0.place (λ _ _. many_stop is_with Any _ refl tt x) s (t ++ r) h)))
    (λ x o. tt) (λ x ts g. g) (λ y ts g. ((y.clauses, (y.declaration, (y.body, y.with_name))), g, refl))

-- ---- whole texts

abbrev pub NullOrCall : Either ℕ (Identifier × Identifier) → Tokens → Type 0
NullOrCall =
    EitherSpells (λ place. word_at words.Null place ⨾ mark marks.Semicolon) (λ x. identifier x.0 ⨾ mark marks.Dot ⨾ identifier x.1 ⨾ mark marks.Semicolon)

main_statement_to : (x : Either ℕ (Identifier × Identifier)) (ts : Tokens) → NullOrCall x ts → main_statement (main_statement_of x) ts
main_statement_to (Left place) ts g = g
main_statement_to (Right x) ts g = g

main_statement_back : (y : MainStatement) (ts : Tokens) → main_statement y ts
    → (x : Either ℕ (Identifier × Identifier)) × NullOrCall x ts × (main_statement_of x ≡ y)
main_statement_back (main_statements.Null place) ts g = (Left place, g, refl)
main_statement_back (main_statements.Call name procedure) ts g = (Right (name, procedure), g, refl)

pub main_statement_exact : Exact main_statement_at main_statement Free
main_statement_exact =
    free_mapped main_statement_of main_statement
    (either_exact (is_word words.Null) (free_ended (exact_token (kinds.Word words.Null) refl) (exact_skipped semicolon refl))
    (named_exact (past_exact (kinds.Delimiter marks.Dot) refl (free_ended exact_identifier (exact_skipped semicolon refl))))
    (λ x s r g. at_placed (λ o. is_word words.Null o ≡ true) (kinds.Word words.Null) x (λ _ _. refl) s r g)
    (λ y s r g st. at_name (λ o. is_word words.Null o ≡ false) y.0 (λ _ _. refl) s r g))
    either_free main_statement_to main_statement_back

pub main_statement_begins : (y : MainStatement) (s r : Tokens) → main_statement y s → begins_main_statement (first (s ++ r)) ≡ true
main_statement_begins (main_statements.Null place) s r g = at_placed (λ o. begins_main_statement o ≡ true) (kinds.Word words.Null) place (λ _ _. refl) s r g
main_statement_begins (main_statements.Call name procedure) s r g = at_name (λ o. begins_main_statement o ≡ true) name (λ _ _. refl) s r g

pub main_exact : (k : ℕ) → Exact (main_at k) (main (Some k)) Free
main_exact k =
    let statements = exact_several begins_main_statement main_statement_at main_statement Any main_statement_exact main_statement_begins (λ o h. tt) refl in
    let from_statements =
    then_exact statements (past_exact end_word refl (free_ended exact_identifier (exact_skipped semicolon refl)))
    (λ x y v r g st. at_past (λ o. (begins_main_statement o ≡ false) × Any o) end_word (λ _ _. (refl, tt)) v r g) in
    free_mapped (λ x. record { place = x.0; name = x.1.0; aspect = x.1.1.0; statements = x.1.1.1.0; end_name = x.1.1.1.1 }) (main (Some k))
    (placed_exact (kinds.Word words.Procedure) refl (named_exact (then_exact (aspect_part_exact k)
    (past_exact (kinds.Word words.Is) refl (past_exact (kinds.Word words.Begin) refl from_statements))
    (λ x y v r g st. at_past (AspectStops x) (kinds.Word words.Is) (aspect_before (kinds.Word words.Is) is_stops refl x) v r g))))
    (λ x o. tt) (λ x ts g. g) (λ y ts g. ((y.place, (y.name, (y.aspect, (y.statements, y.end_name)))), g, refl))

pub pragma_exact : Exact pragma_at pragma_clause Free
pragma_exact =
    free_mapped (λ x. record { place = x.0; name = x.1.0; argument = x.1.1 }) pragma_clause
    (placed_exact (kinds.Word words.Pragma) refl (named_exact (past_exact (kinds.Delimiter marks.LeftParenthesis) refl
    (free_ended exact_identifier (past_exact (kinds.Delimiter marks.RightParenthesis) refl (exact_skipped semicolon refl))))))
    (λ x o. tt) (λ x ts g. g) (λ y ts g. ((y.place, (y.name, y.argument)), g, refl))

-- what is so at `with` and at `package` is so where a package begins
pub at_package : (X : Option Token → Type 0) → ((start end : ℕ) → X (Some (record { kind = kinds.Word words.With; start = start; end_ = end })))
    → ((start end : ℕ) → X (Some (record { kind = kinds.Word words.Package; start = start; end_ = end }))) → (k : ℕ) (p : PackageTree) (s r : Tokens)
    → package_part (Some k) p s → X (first (s ++ r))
at_package X xw xp k p s r g =
    at_both X (each unit_clause p.clauses) _ s r g
    (λ u v h i. in_clauses p.clauses u (v ++ r) h
    (at_both X (package_declaration (Some k) p.declaration) _ v r i
    (λ t w a b. at_placed X (kinds.Word words.Package) p.declaration.place xp t (w ++ r) a)))
  where
    in_clauses : (xs : List UnitClause) (s r : Tokens) → each unit_clause xs s → X (first r) → X (first (s ++ r))
    in_clauses [] s r g x = at_nothing X s r g x
    in_clauses (c ∷ xs) s r g x = at_both X (unit_clause c) (each unit_clause xs) s r g (λ u v h i. at_placed X (kinds.Word words.With) c.place xw u (v ++ r) h)

abbrev pub is_pragma : Option Token → Bool
is_pragma = is_word words.Pragma

pub after_pragmas : (k : ℕ) (x : List Pragma) (p : Option PackageTree) (m : MainTree) (s r : Tokens) → (optional (package_part (Some k)) p ⨾ main (Some k) m) s
    → ManyStops is_pragma Any x (first (s ++ r))
after_pragmas k x None m s r g =
    at_both (ManyStops is_pragma Any x) nothing (main (Some k) m) s r g (λ u v h i.
    at_nothing (ManyStops is_pragma Any x) u (v ++ r) h
    (at_placed (ManyStops is_pragma Any x) (kinds.Word words.Procedure) m.place (λ _ _. many_stop is_pragma Any _ refl tt x) v r i))
after_pragmas k x (Some p) m s r g =
    at_both (ManyStops is_pragma Any x) (package_part (Some k) p) (main (Some k) m) s r g (λ u v h i.
    at_package (ManyStops is_pragma Any x) (λ _ _. many_stop is_pragma Any _ refl tt x) (λ _ _. many_stop is_pragma Any _ refl tt x) k p u (v ++ r) h)

abbrev pub PackageStops : Option PackageTree → Option Token → Type 0
PackageStops = PerhapsStops begins_package Free

pub program_exact : (k : ℕ) → Exact (program_at k) (program (Some k)) Free
program_exact k =
    let pragmas =
    exact_many is_pragma pragma_at pragma_clause Any pragma_exact
    (λ x s r g. at_placed (λ o. is_pragma o ≡ true) (kinds.Word words.Pragma) x.place (λ _ _. refl) s r g) (λ o h. tt) refl in
    let part = perhaps_exact begins_package (package_exact k) (λ x s r g. at_package (λ o. begins_package o ≡ true) (λ _ _. refl) (λ _ _. refl) k x s r g) in
    let from_package =
    then_exact part (main_exact k)
    (λ x y v r g st. at_placed (PackageStops x) (kinds.Word words.Procedure) y.place (λ _ _. perhaps_stop begins_package Free _ refl (λ _. tt) x) v r
    g) in
    free_mapped (λ x. record { pragmas = x.0; package_ = x.1.0; main = x.1.1 }) (program (Some k))
    (then_exact pragmas from_package (λ x y v r g st. after_pragmas k x y.0 y.1 v r g)) (λ x o. tt)
    (λ x ts g. g) (λ y ts g. ((y.pragmas, (y.package_, y.main)), g, refl))

-- ---- the end

abbrev pub Over : Option Token → Type 0
Over o = o ≡ None

end_sound : (ts : Tokens) (x : Unit {0} × Tokens) → end_at ts ≡ Ok x → Took (λ _. nothing) (λ _. Over) ts x
end_sound [] x e =
    subst (λ (z : Unit {0} × Tokens). Took (λ _. nothing) (λ _. Over) [] z) (ok_is (tt, []) x e)
    (record { front = []; spells = refl; parts = refl; stops = refl })
end_sound (t ∷ ts) x e = absurd (ok_not_err x _ (sym e))

end_complete : (r : Tokens) → Over (first r) → end_at r ≡ Ok (tt, r)
end_complete [] s = refl
end_complete (t ∷ ts) s = absurd cc

pub end_fault : (ts : Tokens) (f : Broken) → end_at ts ≡ Err f → f ≡ record { deep = false; left = length ts }
end_fault [] f e = absurd (ok_not_err _ f e)
end_fault (t ∷ ts) f e = cc

end_refused : (ts g : Tokens) (f : Broken) → first g ≡ first ts → end_at ts ≡ Err f → end_at g ≡ refuse false g
end_refused [] g f same e = absurd (ok_not_err _ f e)
end_refused (t ∷ ts) [] f same e = absurd cc
end_refused (t ∷ ts) (u ∷ g) f same e = refl

pub end_exact : Exact end_at (λ _. nothing) (λ _. Over)
end_exact =
    record {
      sound = end_sound;
      complete = λ a s r g st. ap (λ (z : Tokens). end_at (z ++ r)) g ∙ end_complete r st;
      local = λ ts f e. refused_here end_at ts f false (end_fault ts f e) (λ g same. end_refused ts g f same e);
    }

to_whole : (k : ℕ) (x : ProgramTree) (ts : Tokens) → (program (Some k) x ⨾ nothing) ts → program (Some k) x ts
to_whole k x ts g = subst (program (Some k) x) (sym (g.2 ∙ ap (λ (z : Tokens). g.0 ++ z) g.4 ∙ append-nil g.0)) g.3

pub whole_exact : (k : ℕ) → Exact (whole_at k) (program (Some k)) (λ _. Over)
whole_exact k =
    exact_told (whole_at k) (λ x. program (Some k) x ⨾ nothing) (program (Some k)) (λ _. Over) (λ _. Over)
    (ended_by (program_exact k) end_exact (λ x v r g st. tt))
    (to_whole k) (λ x ts g. (ts, [], sym (append-nil ts), g, refl)) (λ x ts o g st. st) (λ x ts o g st. st)

-- ---- loops

pub record_component_turns : Shrinking is_identifier component_at
record_component_turns = shrinking is_identifier component_of_exact (λ x s r g. at_name (λ o. is_identifier o ≡ true) x.name (λ _ _. refl) s r g) refl

pub item_turns : (k : ℕ) → Shrinking begins_item (item_at k)
item_turns k = shrinking begins_item (item_exact k) (λ x s r g. (item_starts k x s r g).1) refl

pub protected_item_turns : (k : ℕ) → Shrinking begins_operation (protected_item_at k)
protected_item_turns k = shrinking begins_operation (protected_item_exact k) (protected_item_begins k) refl

pub body_item_turns : (k : ℕ) → Shrinking begins_item (body_item_at k)
body_item_turns k = shrinking begins_item (body_item_exact k) (λ x s r g. (body_starts k x s r g).1) refl

pub clause_turns : Shrinking (is_word words.With) unit_clause_at
clause_turns =
    shrinking (is_word words.With) unit_clause_exact (λ x s r g. at_placed (λ o. is_with o ≡ true) (kinds.Word words.With) x.place (λ _ _. refl) s r g) refl

pub main_statement_turns : Shrinking begins_main_statement main_statement_at
main_statement_turns = shrinking begins_main_statement main_statement_exact main_statement_begins refl

pub pragma_turns : Shrinking (is_word words.Pragma) pragma_at
pragma_turns =
    shrinking (is_word words.Pragma) pragma_exact (λ x s r g. at_placed (λ o. is_pragma o ≡ true) (kinds.Word words.Pragma) x.place (λ _ _. refl) s r g) refl
