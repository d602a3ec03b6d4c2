use Rattle.std.proofs.Common.{◌≡◌, ◌<◌, ◌+◌, arith}
use Rattle.csv.specs.Records.{fields_of}
use Rattle.kt_text.specs.Records.{left_in}
use Rattle.kt_chain.specs.Texts.{record_count, max_records}
use Rattle.kt_chain.proofs.GatherFacts.{count_more, begins_more, record_fault, too_long, short}
use Rattle.kt_chain.proofs.reading.read_certs_in.Goals as goal

pub returns-in-Err-clause-fault : goal.returns-in-Err-clause-fault
returns-in-Err-clause-fault g c =
    let remaining = g.R.Read.remaining in
    let before = c.loop-certificates.certificates.items in
    let few : record_count before < max_records = omega (arith, c.if-count-eq-MAX_RECORDS.false, c.loop-certificates.invariant.few, c.loop-certificates.invariant.counted) in
    let read = c.in_ok-next_record.ensures.found c.if-branch.true in
    rw c.at.ensures
    (record_fault (left_in remaining c.args.records.now) (left_in remaining c.loop-certificates.records) (left_in remaining c.next_record.new.records) before (fields_of c.next_record.new.current)
    (c.loop-certificates.count + 1) c.in-Err.fault c.loop-certificates.invariant.begins read.1 (omega (arith, c.loop-certificates.invariant.counted)) few c.in-Err.ensures.fault)

pub loop-certificates-preserved : goal.loop-certificates-preserved
loop-certificates-preserved g c =
    let remaining = g.R.Read.remaining in
    let before = c.loop-certificates.certificates.items in
    let few : record_count before < max_records = omega (arith, c.if-count-eq-MAX_RECORDS.false, c.loop-certificates.invariant.few, c.loop-certificates.invariant.counted) in
    let read = c.in_ok-next_record.ensures.found c.if-branch.true in
    let taken = c.in_default.ensures.taken in
    record {
      reading = read.0;
      begins = begins_more (left_in remaining c.args.records.now) (left_in remaining c.loop-certificates.records) (left_in remaining c.next_record.new.records) before c.take_record.new.certificates.items
          (fields_of c.next_record.new.current) c.loop-certificates.invariant.begins read.1 taken few;
      in_range = taken.in_range c.loop-certificates.invariant.in_range;
      counted = omega (arith, c.loop-certificates.invariant.counted, count_more before c.take_record.new.certificates.items (fields_of c.next_record.new.current) taken);
      few = omega (arith, few, c.loop-certificates.invariant.counted);
    }

pub returns-clause-short : goal.returns-clause-short
returns-clause-short g c = short c.loop-certificates.certificates.items c.loop-certificates.invariant.in_range

pub returns-then-count-eq-MAX_RECORDS-clause-fault : goal.returns-then-count-eq-MAX_RECORDS-clause-fault
returns-then-count-eq-MAX_RECORDS-clause-fault g c =
    let remaining = g.R.Read.remaining in
    let before = c.loop-certificates.certificates.items in
    let full : record_count before ≡ max_records = omega (arith, c.if-count-eq-MAX_RECORDS.true, c.loop-certificates.invariant.counted) in
    let read = c.in_ok-next_record.ensures.found c.if-branch.true in
    too_long (left_in remaining c.args.records.now) (left_in remaining c.loop-certificates.records) (left_in remaining c.next_record.new.records) before (fields_of c.next_record.new.current)
    c.loop-certificates.invariant.begins read.1 full
