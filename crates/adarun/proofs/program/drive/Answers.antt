use Rattle.std.proofs.Common.{◌≡◌, None, Some, inl, inr, of_z, refl, rules, subst, to_z, w64}
use Rattle.std.specs.Prelude.{option_map}
use Rattle.command_line.specs.Words.{CheckText, CompileText, ExplainFault, ExplainText, FormatText, GoText, ListImage, LowerText, MeasureSet, Nothing, RunImage, SearchText, ShowManual, ShowVersion, SimulateText, TraceText, wanted_of}
use Rattle.adarun.specs.Driving.{LeavesMeasures, LeavesSearch, LeavesTrace, LeavesUntil, input_of}
use Rattle.adarun.specs.Reading.{with_input}
use Rattle.adarun.specs.declared.program.Status.TheVariants.{Failed, NoMemory}
use Rattle.adarun.proofs.Driving.{asked_as, asked_nothing, failed, numbered_as}
use Rattle.adarun.proofs.program.drive.Goals as goal

pub returns-in-Err-Memory-clause-answers : goal.returns-in-Err-Memory-clause-answers
returns-in-Err-Memory-clause-answers g c =
    rw c.no_memory-status.ensures (record { work = Nothing; status = NoMemory; answer_is = refl; asked_for = λ plain. inr (refl, refl); leaves = (λ name. refl, (refl, inr refl)); reports = tt })

pub returns-in-Ok-Compile-clause-answers : goal.returns-in-Ok-Compile-clause-answers
returns-in-Ok-Compile-clause-answers g c = record {
  work = CompileText c.in-Ok-Compile.source.now c.in-Ok-Compile.image.now;
  status = c.drive_compile-status.result;
  answer_is = search rules;
  asked_for = λ plain. inl (asked_as _ _ _ c.in-Ok-Compile.field-0-is (c.in-Ok-Compile.ensures plain));
  leaves = c.drive_compile-status.ensures.leaves (g.O.Sink.bytes c.args.out.now);
  reports = tt;
}

pub returns-in-Ok-List-clause-answers : goal.returns-in-Ok-List-clause-answers
returns-in-Ok-List-clause-answers g c = record {
  work = ListImage c.in-Ok-List.image.now;
  status = c.drive_list-status.result;
  answer_is = search rules;
  asked_for = λ plain. inl (asked_as _ _ _ c.in-Ok-List.field-0-is (c.in-Ok-List.ensures plain));
  leaves = (λ name. refl, c.drive_list-status.ensures.leaves);
  reports = tt;
}

pub returns-in-Ok-Run-clause-answers : goal.returns-in-Ok-Run-clause-answers
returns-in-Ok-Run-clause-answers g c = record {
  work = RunImage c.in-Ok-Run.image.now c.in-Ok-Run.schedule.now c.in-Ok-Run.limit;
  status = c.drive_run-status.result;
  answer_is = search rules;
  asked_for = λ plain. inl (asked_as _ _ _ c.in-Ok-Run.field-0-is (c.in-Ok-Run.ensures plain));
  leaves = (λ name. refl, c.drive_run-status.ensures.leaves);
  reports = tt;
}

pub returns-in-Ok-Go-clause-answers : goal.returns-in-Ok-Go-clause-answers
returns-in-Ok-Go-clause-answers g c = record {
  work = GoText c.in-Ok-Go.source.now c.in-Ok-Go.schedule.now c.in-Ok-Go.limit;
  status = c.drive_go-status.result;
  answer_is = search rules;
  asked_for = λ plain. inl (asked_as _ _ _ c.in-Ok-Go.field-0-is (c.in-Ok-Go.ensures plain));
  leaves = (λ name. refl, c.drive_go-status.ensures.leaves);
  reports = tt;
}

pub returns-in-Ok-Trace-clause-answers : goal.returns-in-Ok-Trace-clause-answers
returns-in-Ok-Trace-clause-answers g c = record {
  work = TraceText c.in-Ok-Trace.view c.in-Ok-Trace.source.now c.in-Ok-Trace.schedule.now c.in-Ok-Trace.limit c.in-Ok-Trace.until;
  status = c.drive_trace-status.result;
  answer_is = search rules;
  asked_for = λ plain. inl (asked_as _ _ _ c.in-Ok-Trace.field-0-is (c.in-Ok-Trace.ensures plain));
  leaves = (λ name. refl, c.drive_trace-status.ensures.leaves);
  reports = tt;
}

pub returns-in-Ok-Explain-clause-answers : goal.returns-in-Ok-Explain-clause-answers
returns-in-Ok-Explain-clause-answers g c = record {
  work = ExplainFault c.in-Ok-Explain.number;
  status = c.drive_explain-status.result;
  answer_is = search rules;
  asked_for = λ plain. inl (asked_as _ _ _ c.in-Ok-Explain.field-0-is (c.in-Ok-Explain.ensures plain));
  leaves = (λ name. refl, c.drive_explain-status.ensures.leaves);
  reports = tt;
}

pub returns-in-Ok-ExplainText-clause-answers : goal.returns-in-Ok-ExplainText-clause-answers
returns-in-Ok-ExplainText-clause-answers g c = record {
  work = ExplainText c.in-Ok-ExplainText.number c.in-Ok-ExplainText.source.now;
  status = c.drive_explain_text-status.result;
  answer_is = search rules;
  asked_for = λ plain. inl (asked_as _ _ _ c.in-Ok-ExplainText.field-0-is (c.in-Ok-ExplainText.ensures plain));
  leaves = (λ name. refl, c.drive_explain_text-status.ensures.leaves);
  reports = tt;
}

pub returns-in-Ok-Simulate-clause-answers : goal.returns-in-Ok-Simulate-clause-answers
returns-in-Ok-Simulate-clause-answers g c = record {
  work = SimulateText c.in-Ok-Simulate.source.now (option_map (λ name. name.now) c.in-Ok-Simulate.schedule) c.in-Ok-Simulate.limit c.in-Ok-Simulate.until;
  status = c.drive_simulate-status.result;
  answer_is = search rules;
  asked_for = λ plain. inl (asked_as _ _ _ c.in-Ok-Simulate.field-0-is (c.in-Ok-Simulate.ensures plain));
  leaves = (λ name. refl, c.drive_simulate-status.ensures.leaves);
  reports = tt;
}

pub returns-in-Ok-Check-clause-answers : goal.returns-in-Ok-Check-clause-answers
returns-in-Ok-Check-clause-answers g c = record {
  work = CheckText c.in-Ok-Check.source.now;
  status = c.drive_check-status.result;
  answer_is = search rules;
  asked_for = λ plain. inl (asked_as _ _ _ c.in-Ok-Check.field-0-is (c.in-Ok-Check.ensures plain));
  leaves = (λ name. refl, refl);
  reports = c.drive_check-status.ensures.leaves;
}

pub returns-in-Ok-Format-clause-answers : goal.returns-in-Ok-Format-clause-answers
returns-in-Ok-Format-clause-answers g c = record {
  work = FormatText c.in-Ok-Format.source.now;
  status = c.drive_format-status.result;
  answer_is = search rules;
  asked_for = λ plain. inl (asked_as _ _ _ c.in-Ok-Format.field-0-is (c.in-Ok-Format.ensures plain));
  leaves = (λ name. refl, c.drive_format-status.ensures.leaves);
  reports = tt;
}

pub returns-in-Ok-Lower-clause-answers : goal.returns-in-Ok-Lower-clause-answers
returns-in-Ok-Lower-clause-answers g c = record {
  work = LowerText c.in-Ok-Lower.source.now;
  status = c.drive_lower-status.result;
  answer_is = search rules;
  asked_for = λ plain. inl (asked_as _ _ _ c.in-Ok-Lower.field-0-is (c.in-Ok-Lower.ensures plain));
  leaves = (λ name. refl, c.drive_lower-status.ensures.leaves);
  reports = tt;
}

pub returns-in-Ok-MeasureSet-clause-answers : goal.returns-in-Ok-MeasureSet-clause-answers
returns-in-Ok-MeasureSet-clause-answers g c =
    let until = c.in-Ok-MeasureSet.until in
    let u : to_z w64 (of_z w64 until) ≡ until = search rules in
    let leaves =
    subst
    (λ z. LeavesMeasures c.in-Ok-MeasureSet.is_fields (g.F.FileStore.contents c.args.files.now) c.in-Ok-MeasureSet.source.now c.in-Ok-MeasureSet.choices.now z
    c.in-Ok-MeasureSet.limit c.drive_measures-status.result (g.O.Sink.bytes c.args.out.now) (g.O.Sink.bytes c.drive_measures-status.new.out))
    u c.drive_measures-status.ensures.leaves in
    record {
      work = MeasureSet c.in-Ok-MeasureSet.source.now c.in-Ok-MeasureSet.choices.now until c.in-Ok-MeasureSet.limit c.in-Ok-MeasureSet.is_fields;
      status = c.drive_measures-status.result;
      answer_is = search rules;
      asked_for = λ plain. inl (asked_as _ _ _ c.in-Ok-MeasureSet.field-0-is (c.in-Ok-MeasureSet.ensures plain));
      leaves = (λ name. refl, leaves);
      reports = tt;
    }

pub returns-in-Ok-Search-clause-answers : goal.returns-in-Ok-Search-clause-answers
returns-in-Ok-Search-clause-answers g c =
    let until = c.in-Ok-Search.until in
    let u : to_z w64 (of_z w64 until) ≡ until = search rules in
    let leaves =
    subst
    (λ z. LeavesSearch (with_input (g.F.FileStore.standard_input c.args.files.now) (g.F.FileStore.contents c.args.files.now)) c.in-Ok-Search.source.now (g.F.FileStore.contents c.args.files.now c.in-Ok-Search.choices.now) z c.in-Ok-Search.limit
    (wanted_of c.in-Ok-Search.wanted) c.in-Ok-Search.part c.drive_search-status.result (g.O.Sink.bytes c.args.out.now) (g.O.Sink.bytes c.drive_search-status.new.out))
    u c.drive_search-status.ensures.leaves in
    record {
      work = SearchText c.in-Ok-Search.source.now c.in-Ok-Search.choices.now until c.in-Ok-Search.limit (wanted_of c.in-Ok-Search.wanted) c.in-Ok-Search.part c.in-Ok-Search.is_quiet;
      status = c.drive_search-status.result;
      answer_is = search rules;
      asked_for = λ plain. inl (asked_as _ _ _ c.in-Ok-Search.field-0-is (c.in-Ok-Search.ensures plain));
      leaves = (λ name. refl, leaves);
      reports = tt;
    }

pub returns-in-Ok-Manual-clause-answers : goal.returns-in-Ok-Manual-clause-answers
returns-in-Ok-Manual-clause-answers g c = record {
  work = ShowManual;
  status = c.show-status.result;
  answer_is = search rules;
  asked_for = λ plain. inl (asked_as _ _ _ c.in-Ok-Manual.field-0-is (c.in-Ok-Manual.ensures plain));
  leaves = (λ name. refl, c.show-status.ensures.leaves);
  reports = tt;
}

pub returns-in-Ok-Version-clause-answers : goal.returns-in-Ok-Version-clause-answers
returns-in-Ok-Version-clause-answers g c = record {
  work = ShowVersion;
  status = c.show-status-in-Ok-Version.result;
  answer_is = search rules;
  asked_for = λ plain. inl (asked_as _ _ _ c.in-Ok-Version.field-0-is (c.in-Ok-Version.ensures plain));
  leaves = (λ name. refl, c.show-status-in-Ok-Version.ensures.leaves);
  reports = tt;
}

pub returns-in-Err-Usage-clause-answers : goal.returns-in-Err-Usage-clause-answers
returns-in-Err-Usage-clause-answers g c =
    rw c.usage-status.ensures (record { work = Nothing; status = Failed; answer_is = refl; asked_for = λ plain. inl (asked_nothing _ _ c.in-Err-Usage.field-0-is (c.in-Err-Usage.ensures plain)); leaves = (λ name. refl, (refl, inl refl)); reports = tt })

pub returns-in-Ok-Explain-clause-failed : goal.returns-in-Ok-Explain-clause-failed
returns-in-Ok-Explain-clause-failed g c =
    failed c.drive_explain-status.result (c.drive_explain-status.new.out ≡ c.args.out.now) (g.O.Sink.failures c.args.out.now)
    (g.O.Sink.failures c.drive_explain-status.new.out) c.drive_explain-status.ensures.sink
