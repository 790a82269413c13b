use Rattle.steps.specs.Stages.{limits_of}
use Rattle.check_calls.proofs.check.ask.Goals as goal

pub returns-in-Find : goal.returns-in-Find
returns-in-Find c s t h =
    let room = c.args.state.now.room in
    rw c.in-Find.is (c.find.ensures (limits_of s room.limits) t room.older room.held h)

pub returns-in-MakeFile : goal.returns-in-MakeFile
returns-in-MakeFile c s t h = rw c.in-MakeFile.is (c.make.ensures c.args.state.now.room.held s t h)

pub returns-in-MakeDir : goal.returns-in-MakeDir
returns-in-MakeDir c s t h = rw c.in-MakeDir.is (c.make-in-MakeDir.ensures c.args.state.now.room.held s t h)

pub returns-in-Remove : goal.returns-in-Remove
returns-in-Remove c s t h = rw c.in-Remove.is (c.remove.ensures c.args.state.now.room.held s t h)

pub returns-in-Rename : goal.returns-in-Rename
returns-in-Rename c s t h = rw c.in-Rename.is (c.rename.ensures c.args.state.now.room.held s t h)

pub returns-in-List : goal.returns-in-List
returns-in-List c s t h =
    let room = c.args.state.now.room in
    rw c.in-List.is (c.list.ensures (limits_of s room.limits) t room.older room.held h)

pub returns-in-Size : goal.returns-in-Size
returns-in-Size c s t h =
    let room = c.args.state.now.room in
    rw c.in-Size.is (c.size.ensures (limits_of s room.limits) t room.older room.held h)

pub returns-in-Read : goal.returns-in-Read
returns-in-Read c s t h =
    let room = c.args.state.now.room in
    rw c.in-Read.is (c.read.ensures (limits_of s room.limits) t room.older room.held h)

pub returns-in-Write : goal.returns-in-Write
returns-in-Write c s t h =
    let room = c.args.state.now.room in
    rw c.in-Write.is (c.write.ensures (limits_of s room.limits) t room.older room.held h)

pub returns-in-Resize : goal.returns-in-Resize
returns-in-Resize c s t h = rw c.in-Resize.is (c.resize.ensures s t h)

pub returns-in-SyncFile : goal.returns-in-SyncFile
returns-in-SyncFile c s t h =
    let room = c.args.state.now.room in
    rw c.in-SyncFile.is (c.sync_file.ensures (limits_of s room.limits) t room.older room.held h)
