-- The layers of compiling, one behind another.
use Rattle.std.proofs.Common.{◌≡◌, ◌<◌, ◌⊎◌, ◌∙◌, arith, ℕ, List, [], None, Result, Ok, Err, ap, inl, inr, subst, sym}
use Rattle.std.proofs.lemmas.List.Elements.{All-contains}
use Rattle.std.specs.List.{Contains}
use Rattle.std.specs.Prelude.{IfOk, IfErr}
use Rattle.base.specs.declared.faults.TheConstants.{LIMIT_PASSED, NAME_NOT_VISIBLE}
use Rattle.lexer.specs.Fault.{memory_fault}
use Rattle.lexer.specs.Spelling.{IsBroken, IsRefusedForMemory, Spells}
use Rattle.lexer.specs.declared.fault.Fault.{Fault}
use Rattle.lexer.specs.declared.token.Token.{Token}
use Rattle.parser.specs.Parsing.{Derives, IsFaulty, IsRefusal}
use Rattle.image.specs.Sections.{Sections}
use Rattle.image.specs.Rules.{IsWellFormed}
use Rattle.compiler.specs.ada_tree.specs.declared.program.Program.{Program}
use Rattle.compiler.specs.ada_tree.specs.Parsed.{IsParsed}
use Rattle.compiler.specs.ada_tree.specs.ProgramTree.{ProgramTree, program_tree}
use Rattle.compiler.specs.expr_rules.specs.Faults.{Faults, IsLeast}
use Rattle.legality.specs.ProgramRules.{IsLegal, RefusesProgram, program_faults}
use Rattle.ravenscar.specs.ProgramRules.{IsRestricted, RefusesUnrestricted, restriction_faults}
use Rattle.fault_numbers.specs.Numbers.{AreNumberedWithin, GrammarNumbers, IsNumbered, IsRestrictionNumbered, LegalityNumbers, RestrictionNumbers, SpellingNumbers}
use Rattle.compiler.specs.meaning.specs.SameMeaning.{KeepsCount, SameMeaning}
use Rattle.compiler.specs.package_code.specs.Places.{PlacesTell}
use Rattle.compiler.specs.expr_code.specs.Coming.{most_steps}
use Rattle.compiler.specs.Compiled.{IsBounded, KeepsTokenCounts}
use Rattle.source_laws.specs.Limits.{SmallIsUnlimited}
use Rattle.adarun.specs.Naming.{CompilesNamed, objects_of}
use Rattle.variable_places.specs.Shown.{program_scopes}
use Rattle.adarun.specs.Operations.{subprogram_names}
use Rattle.adarun.specs.declared.compilation.Named.{Named}
use Rattle.adarun.specs.Accepted.{CompilesAccepted, IsJudged, IsTextFault, IsTreeOf, RefusesAccepted, RefusesText, RefusesTree}

-- the program that was read is the one that was checked
pub compiles : {E : Type 0} (r : Result Named E) (text : List ℕ) (tokens list : List Token) (read : Program)
    → Spells text tokens → list ≡ tokens → Derives (program_tree read) list
    → (checked : Program) → checked ≡ read → IsLegal (program_tree checked) → IsRestricted (program_tree checked)
    → IfOk r (λ n. SameMeaning (program_tree checked) n.image)
    → IfOk r (λ n. KeepsCount (program_tree checked) n.image (most_steps n.image))
    → IfOk r (λ n. IsBounded (program_tree checked) n.image)
    → IfOk r (λ n. KeepsTokenCounts (program_tree checked) n.image)
    → IfOk r (λ n. IsWellFormed n.image)
    → IfOk r (λ n. n.objects.items ≡ objects_of (program_tree checked))
    → IfOk r (λ n. PlacesTell (program_tree checked) n.image n.places)
    → IfOk r (λ n. CompilesNamed text n.image n.objects.items n.places)
compiles (Ok n) text tokens list read spells same derives checked is legal restricted means counted bounded within well_formed names placed =
    let derived = subst (λ p. Derives (program_tree p) tokens) (sym is) (subst (Derives (program_tree read)) same derives) in
    record {
      compiles = record {
        tree = program_tree checked;
        accepted = record { is_tree = record { tokens = tokens; spells = spells; derives = derived }; legal = legal; restricted = restricted };
        means = means;
        counted = counted;
        bounded = bounded;
        within = within tokens derived.derives;
        well_formed = well_formed;
      };
      names = names;
      placed = placed;
    }
compiles (Err e) text tokens list read spells same derives checked is legal restricted means counted bounded within well_formed names placed = tt

-- the names of bodies are those of each tree of the text
pub named_bodies : {E : Type 0} (r : Result Named E) (text : List ℕ) (made : ProgramTree) → ((tree : ProgramTree) → IsTreeOf tree text → made ≡ tree)
    → IfOk r (λ n. n.subprograms.items ≡ subprogram_names made)
    → IfOk r (λ n. (tree : ProgramTree) → IsTreeOf tree text → n.subprograms.items ≡ subprogram_names tree)
named_bodies (Ok n) text made only bodies = λ tree is_tree. bodies ∙ ap subprogram_names (only tree is_tree)
named_bodies (Err e) text made only bodies = tt

-- and the scopes of dumps those of each tree
pub named_scopes : {E : Type 0} (r : Result Named E) (text : List ℕ) (made : ProgramTree) → ((tree : ProgramTree) → IsTreeOf tree text → made ≡ tree)
    → IfOk r (λ n. n.scopes ≡ program_scopes made)
    → IfOk r (λ n. (tree : ProgramTree) → IsTreeOf tree text → n.scopes ≡ program_scopes tree)
named_scopes (Ok n) text made only scopes = λ tree is_tree. scopes ∙ ap program_scopes (only tree is_tree)
named_scopes (Err e) text made only scopes = tt

-- what is told of an accepted text where its tree is refused, by the laws of source texts
abbrev Tells : List ℕ → ProgramTree → Type 0
Tells text tree = (fault : Fault) → RefusesTree tree fault → RefusesAccepted text tree fault

pub tells : SmallIsUnlimited → (text : List ℕ) (tree : ProgramTree) → IsTreeOf tree text → IsLegal tree → IsRestricted tree → Tells text tree
tells unlimited text tree is_tree legal restricted fault (inl memory) = inl memory
tells unlimited text tree is_tree legal restricted fault (inr large) =
    inr (large.0, (large.1, λ it. unlimited None tree it.is_tree.tokens it.is_tree.derives.derives legal restricted it.small large.1))

pub given : (r : Result Sections Fault) (text : List ℕ) (tree made : ProgramTree) → Tells text tree → made ≡ tree → IfOk r (λ i. SameMeaning made i)
    → IfErr r (λ f. RefusesTree made f)
    → CompilesAccepted text tree r
given (Ok i) text tree made told same means refused = subst (λ t. SameMeaning t i) same means
given (Err f) text tree made told same means refused = told f (subst (λ t. RefusesTree t f) same refused)

-- ---- where nothing is broken nothing is the least

nothing_least : (faults : Faults) (fault : Fault) → faults ≡ [] → IsLeast faults fault → ⊥
nothing_least faults fault none least =
    let there : Contains [] fault = subst (λ fs. Contains fs fault) none least.listed in
    let no : there.0 < 0 = there.1 in
    omega (arith, no)

-- what is legal is not refused by the check but for want of memory, and what is restricted not by the restrictions

pub legal_given : (text : List ℕ) (tree made : ProgramTree) (fault : Fault) → made ≡ tree → IsLegal tree → RefusesProgram made fault
    → CompilesAccepted text tree (Err fault)
legal_given text tree made fault same legal (inl memory) = inl memory
legal_given text tree made fault same legal (inr least) = absurd (nothing_least (program_faults tree) fault legal (subst (λ t. IsLeast (program_faults t) fault) same least))

pub restricted_given : (text : List ℕ) (tree made : ProgramTree) (fault : Fault) → made ≡ tree → IsRestricted tree → RefusesUnrestricted made fault
    → CompilesAccepted text tree (Err fault)
restricted_given text tree made fault same restricted (inl memory) = inl memory
restricted_given text tree made fault same restricted (inr least) =
    absurd (nothing_least (restriction_faults tree) fault restricted (subst (λ t. IsLeast (restriction_faults t) fault) same least))

-- ---- how a tree is judged

-- what the check refuses
pub judged : (text : List ℕ) (tree made : ProgramTree) (fault : Fault) → made ≡ tree → RefusesProgram made fault → IsJudged text tree (Err fault)
judged text tree made fault same (inl memory) = inl memory
judged text tree made fault same (inr least) = inr (inl (subst (λ t. IsLeast (program_faults t) fault) same least))

-- what is legal and refused by a restriction
pub judged_legal : (text : List ℕ) (tree made : ProgramTree) (fault : Fault) → made ≡ tree → IsLegal made → RefusesUnrestricted made fault
    → IsJudged text tree (Err fault)
judged_legal text tree made fault same legal (inl memory) = inl memory
judged_legal text tree made fault same legal (inr least) = inr (inr (inl (subst IsLegal same legal, subst (λ t. IsLeast (restriction_faults t) fault) same least)))

-- what breaks no rule
pub judged_accepted : SmallIsUnlimited → (r : Result Sections Fault) (text : List ℕ) (tree made : ProgramTree)
    → IsTreeOf tree text → made ≡ tree → IsLegal made → IsRestricted made → IfErr r (λ f. RefusesTree made f) → IsJudged text tree r
judged_accepted unlimited (Ok i) text tree made is_tree same legal restricted refused = (subst IsLegal same legal, subst IsRestricted same restricted)
judged_accepted unlimited (Err fault) text tree made is_tree same legal restricted refused =
    let fine = subst IsLegal same legal in
    let held = subst IsRestricted same restricted in
    inr (inr (inr (fine, (held, tells unlimited text tree is_tree fine held fault (subst (λ t. RefusesTree t fault) same refused)))))

-- ---- texts that are not compiled

-- the tree that was read is that of a text
pub parsed : (text : List ℕ) (tokens list : List Token) (read : Program) → Spells text tokens → list ≡ tokens → Derives (program_tree read) list
    → IsParsed (program_tree read)
parsed text tokens list read spells same derives = record {
  text = text;
  tokens = tokens;
  is = record { limit = None; spelled = spells; tree = (subst (Derives (program_tree read)) same derives).derives };
}

-- what has tokens, of which no tree derives all
pub no_tree : (text : List ℕ) (tokens list : List Token) (fault : Fault) → Spells text tokens → list ≡ tokens → IsRefusal list fault → RefusesText text fault
no_tree text tokens list fault spells same (inl memory) = inl memory
no_tree text tokens list fault spells same (inr faulty) =
    inr (inr (inl (record { tokens = tokens; spells = spells; faulty = subst (λ l. IsFaulty l fault) same faulty })))

-- what has no tokens: what is told for want of memory is no rule of spelling
pub misspelled : SpellingNumbers → (text : List ℕ) (fault : Fault) → IsBroken text fault ⊎ IsRefusedForMemory text fault
    → ((other : Fault) → IsBroken text other → (fault ≡ memory_fault) ⊎ ((fault.place < other.place) ⊎ (fault ≡ other)))
    → RefusesText text fault
misspelled numbers text fault (inr refused) least = inl refused.memory
misspelled numbers text fault (inl broken) least =
    inr (inl (record {
      broken = broken;
      first = λ other is. elim (least other is) [
        | inl memory ↦ let n = ap (λ f. f.number) memory in let range = (numbers text fault broken).1 in absurd (omega (arith, n, range))
        | inr first ↦ first
      ];
    }))

-- the tree of the program that was read, of which another one is a copy
pub read_tree : (text : List ℕ) (tokens list : List Token) (read copy : Program)
    → Spells text tokens → list ≡ tokens → Derives (program_tree read) list → copy ≡ read → IsTreeOf (program_tree copy) text
read_tree text tokens list read copy spells same derives is = record {
  tokens = tokens;
  spells = spells;
  derives = subst (λ p. Derives (program_tree p) tokens) (sym is) (subst (Derives (program_tree read)) same derives);
}

-- its legal tree breaks a restriction
pub unrestricted_text : (text : List ℕ) (tokens list : List Token) (read checked : Program) (fault : Fault)
    → Spells text tokens → list ≡ tokens → Derives (program_tree read) list → checked ≡ read → IsLegal (program_tree read)
    → RefusesUnrestricted (program_tree checked) fault
    → RefusesText text fault
unrestricted_text text tokens list read checked fault spells same derives is legal (inl memory) = inl memory
unrestricted_text text tokens list read checked fault spells same derives is legal (inr least) =
    inr (inr (inr (inr (inl (record {
      tree = program_tree checked;
      is_tree = read_tree text tokens list read checked spells same derives is;
      legal = subst (λ p. IsLegal (program_tree p)) (sym is) legal;
      least = least;
    })))))

-- it is accepted
pub refused_text : {A : Type 0} → SmallIsUnlimited → (r : Result A Fault) (text : List ℕ) (tokens list : List Token)
    (read checked : Program)
    → Spells text tokens → list ≡ tokens → Derives (program_tree read) list → checked ≡ read
    → IsLegal (program_tree checked) → IsRestricted (program_tree checked)
    → IfErr r (λ f. RefusesTree (program_tree checked) f)
    → IfErr r (λ f. RefusesText text f)
refused_text unlimited (Ok a) text tokens list read checked spells same derives is legal restricted refused = tt
refused_text unlimited (Err fault) text tokens list read checked spells same derives is legal restricted refused =
    let is_tree = read_tree text tokens list read checked spells same derives is in
    inr (inr (inr (inr (inr (record {
      tree = program_tree checked;
      accepted = record { is_tree = is_tree; legal = legal; restricted = restricted };
      refused = tells unlimited text (program_tree checked) is_tree legal restricted fault refused;
    })))))

-- ---- numbers of faults

module _ (spelling : SpellingNumbers) (grammar : GrammarNumbers) (legality : LegalityNumbers) (restrictions : RestrictionNumbers) where
  among : (first last : ℕ) (faults : Faults) (fault : Fault) → AreNumberedWithin first last faults → IsLeast faults fault → IsNumbered first last fault
  among first last faults fault all least = All-contains (IsNumbered first last) faults fault all least.listed

  pub of_text : (text : List ℕ) (fault : Fault) → RefusesText text fault → IsTextFault fault.number
  of_text text fault (inl memory) = inr (inr (inr (inr (ap (λ f. f.number) memory))))
  of_text text fault (inr (inl broken)) = let n = spelling text fault broken.broken in inl (n.0, omega (arith, n.1))
  of_text text fault (inr (inr (inl none))) = let n = grammar none.tokens fault none.faulty in inl (omega (arith, n.0), n.1)
  of_text text fault (inr (inr (inr (inl illegal)))) =
      inr (inl (among NAME_NOT_VISIBLE LIMIT_PASSED (program_faults illegal.tree) fault (legality illegal.tree) illegal.least))
  of_text text fault (inr (inr (inr (inr (inl broken))))) =
      of_restriction (All-contains IsRestrictionNumbered (restriction_faults broken.tree) fault (restrictions broken.tree) broken.least.listed)
    where
      of_restriction : IsRestrictionNumbered fault → IsTextFault fault.number
      of_restriction (inl profile) = inr (inr (inl profile))
      of_restriction (inr handler) = inr (inr (inr (inl handler)))
  of_text text fault (inr (inr (inr (inr (inr refused))))) = of_tree refused.refused
    where
      of_tree : RefusesAccepted text refused.tree fault → IsTextFault fault.number
      of_tree (inl memory) = inr (inr (inr (inr (ap (λ f. f.number) memory))))
      of_tree (inr large) = let n = ap (λ f. f.number) large.0 in inr (inl (omega (arith, n), omega (arith, n)))

  pub numbered : {A : Type 0} (r : Result A Fault) (text : List ℕ) → IfErr r (λ f. RefusesText text f) → IfErr r (λ f. IsTextFault f.number)
  numbered (Ok a) text refused = tt
  numbered (Err fault) text refused = of_text text fault refused
