use Rattle.std.proofs.Common.{◌≡◌, ◌∙◌, ℕ, List, length, Ok, Err, Result, ap, subst, sym}
use Rattle.std.specs.Prelude.{IsSome}
use Rattle.afd_extract.specs.Extract.{WritesExtract}
use Rattle.afd_extract.specs.Period.{IsPeriod}
use Rattle.afd_extract.specs.declared.error.WriteFail.{WriteFail}
use Rattle.rep_store.specs.declared.error.ExtractFail.TheVariants.{SinkFault, DeviceFault}
use Rattle.rep_store.proofs.Dates.{length-days_of}
use Rattle.rep_store.proofs.Extractions.{PutsExtract-cut, PutsExtract-file, PutsExtract-lead, range_in}
use Rattle.rep_store.proofs.extracting.put_extract.Goals as goal

pub returns-then-is_err-clause-puts : goal.returns-then-is_err-clause-puts
returns-then-is_err-clause-puts g c = λ site minute is_site founded headed.
    let head = c.args.head.now in
    let period = subst (λ (xs : List ℕ). IsPeriod xs head.first head.last c.period-range.result) (c.list.ensures ∙ c.requires.days.same) c.period-range.ensures in
    PutsExtract-lead site c.args.core.now.entries c.args.lead head.first head.last minute c.period-range.result head period headed
    (IsSome (g.D.Disk.shown c.args.device.now.disk).contents) (g.K.Sink.written c.args.sink.now) (g.K.Sink.written c.put_lead.new.sink) c.put_lead.result SinkFault
    (sym c.is_err.ensures.value ∙ c.if-is_err.true) (c.put_lead.ensures.puts site is_site founded)

pub write_afd-requires-clause-range : goal.write_afd-requires-clause-range
write_afd-requires-clause-range g c =
    let head = c.args.head.now in
    range_in c.args.device.now.frames c.list.result.now head.first head.last c.period-range.result c.period-range.ensures
    (ap length (c.list.ensures ∙ c.requires.days.same) ∙ length-days_of c.args.core.now.entries ∙ sym c.requires.as_many)

pub returns-in-Ok-clause-puts : goal.returns-in-Ok-clause-puts
returns-in-Ok-clause-puts g c = λ site minute is_site founded headed.
    let head = c.args.head.now in
    let range = c.period-range.result in
    let period = subst (λ (xs : List ℕ). IsPeriod xs head.first head.last range) (c.list.ensures ∙ c.requires.days.same) c.period-range.ensures in
    let writes = subst (λ (r : Result ℕ WriteFail). WritesExtract head c.args.device.now.frames range (IsSome (g.D.Disk.shown c.args.device.now.disk).contents) (g.K.Sink.written c.put_lead.new.sink) (g.K.Sink.written c.write_afd.new.sink) r) c.in-Ok.is c.write_afd.ensures.writes in
    PutsExtract-file site c.args.core.now.entries c.args.lead head.first head.last minute range head period headed
    (IsSome (g.D.Disk.shown c.args.device.now.disk).contents) (g.K.Sink.written c.args.sink.now) (g.K.Sink.written c.put_lead.new.sink) (g.K.Sink.written c.write_afd.new.sink) c.put_lead.result
    (sym c.is_err.ensures.value ∙ c.if-is_err.false) (c.put_lead.ensures.puts site is_site founded) c.args.device.now.frames c.requires.as_many c.requires.frames
    c.an_extract_is_the_file_of_its_records.ensures c.in-Ok.size writes

pub returns-in-Err-SinkFault-clause-puts : goal.returns-in-Err-SinkFault-clause-puts
returns-in-Err-SinkFault-clause-puts g c = λ site minute is_site founded headed.
    let head = c.args.head.now in
    let range = c.period-range.result in
    let period = subst (λ (xs : List ℕ). IsPeriod xs head.first head.last range) (c.list.ensures ∙ c.requires.days.same) c.period-range.ensures in
    let writes = subst (λ (r : Result ℕ WriteFail). WritesExtract head c.args.device.now.frames range (IsSome (g.D.Disk.shown c.args.device.now.disk).contents) (g.K.Sink.written c.put_lead.new.sink) (g.K.Sink.written c.write_afd.new.sink) r) c.in-Err-SinkFault.is c.write_afd.ensures.writes in
    PutsExtract-cut site c.args.core.now.entries c.args.lead head.first head.last minute range head period headed
    (IsSome (g.D.Disk.shown c.args.device.now.disk).contents) (g.K.Sink.written c.args.sink.now) (g.K.Sink.written c.put_lead.new.sink) (g.K.Sink.written c.write_afd.new.sink) c.put_lead.result
    (sym c.is_err.ensures.value ∙ c.if-is_err.false) (c.put_lead.ensures.puts site is_site founded) c.args.device.now.frames c.requires.as_many c.requires.frames
    c.an_extract_is_the_file_of_its_records.ensures c.in-Err-SinkFault.field-0 SinkFault writes

pub returns-in-Err-DeviceFault-clause-puts : goal.returns-in-Err-DeviceFault-clause-puts
returns-in-Err-DeviceFault-clause-puts g c = λ site minute is_site founded headed.
    let head = c.args.head.now in
    let range = c.period-range.result in
    let period = subst (λ (xs : List ℕ). IsPeriod xs head.first head.last range) (c.list.ensures ∙ c.requires.days.same) c.period-range.ensures in
    let writes = subst (λ (r : Result ℕ WriteFail). WritesExtract head c.args.device.now.frames range (IsSome (g.D.Disk.shown c.args.device.now.disk).contents) (g.K.Sink.written c.put_lead.new.sink) (g.K.Sink.written c.write_afd.new.sink) r) c.in-Err-DeviceFault.is c.write_afd.ensures.writes in
    PutsExtract-cut site c.args.core.now.entries c.args.lead head.first head.last minute range head period headed
    (IsSome (g.D.Disk.shown c.args.device.now.disk).contents) (g.K.Sink.written c.args.sink.now) (g.K.Sink.written c.put_lead.new.sink) (g.K.Sink.written c.write_afd.new.sink) c.put_lead.result
    (sym c.is_err.ensures.value ∙ c.if-is_err.false) (c.put_lead.ensures.puts site is_site founded) c.args.device.now.frames c.requires.as_many c.requires.frames
    c.an_extract_is_the_file_of_its_records.ensures c.in-Err-DeviceFault.field-0 DeviceFault writes
