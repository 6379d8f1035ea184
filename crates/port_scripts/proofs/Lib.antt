mod ItemSteps
