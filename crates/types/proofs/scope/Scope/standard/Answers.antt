use Rattle.std.proofs.Common.{ap, ◌∙◌, true, false}
use Rattle.std.specs.Prelude.{codes}
use Rattle.types.specs.Entities.{Integers, Booleans, OfType, OfSubtype, Literal, Exception}
use Rattle.types.specs.Scopes.{boolean, integer, integers_from, with_name}
use Rattle.types.proofs.scope.Scope.standard.Goals as goal

pub returns : goal.returns
returns c =
    let s1 = c.in_ok-see.ensures ∙ ap (λ s. with_name s (codes "INTEGER") (OfType Integers integer)) c.new-scope.ensures in
    let s2 = c.in_ok-see-2.ensures ∙ ap (λ s. with_name s (codes "NATURAL") (OfSubtype (integers_from 0))) s1 in
    let s3 = c.in_ok-see-3.ensures ∙ ap (λ s. with_name s (codes "POSITIVE") (OfSubtype (integers_from 1))) s2 in
    let s4 = c.in_ok-see-4.ensures ∙ ap (λ s. with_name s (codes "BOOLEAN") (OfType Booleans boolean)) s3 in
    let s5 = c.in_ok-see-5.ensures ∙ ap (λ s. with_name s (codes "TRUE") (Literal true)) s4 in
    let s6 = c.in_ok-see-6.ensures ∙ ap (λ s. with_name s (codes "FALSE") (Literal false)) s5 in
    let s7 = c.in_ok-see-7.ensures ∙ ap (λ s. with_name s (codes "CONSTRAINT_ERROR") (Exception)) s6 in
    let s8 = c.in_ok-see-8.ensures ∙ ap (λ s. with_name s (codes "PROGRAM_ERROR") (Exception)) s7 in
    let s9 = c.in_ok-see-9.ensures ∙ ap (λ s. with_name s (codes "STORAGE_ERROR") (Exception)) s8 in
    let s10 = c.in_ok-see-10.ensures ∙ ap (λ s. with_name s (codes "TASKING_ERROR") (Exception)) s9 in
    s10
